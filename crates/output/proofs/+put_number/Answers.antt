-- A number of one digit is that digit; another is what comes before its last digit, and that.
use Rattle.std.proofs.Common.{sym, arith}
use Rattle.output.proofs.Decimals.{decimal_one, decimal_more}
use Rattle.output.proofs.Writing.{wrote_as, wrote_append, ends_as, ends_left, ends_right}
use Rattle.output.proofs.+put_number.Goals as goal

pub put_byte-requires : goal.put_byte-requires
put_byte-requires t c = ends_as c.requires (decimal_one c.args.n c.if-n-lt10.true)

pub put_number-last-requires : goal.put_number-last-requires
put_number-last-requires t c =
    (omega arith, ends_left _ _ (ends_as c.requires (decimal_more c.args.n c.if-n-lt10.false (omega arith))))

pub put_byte-requires-else-n-lt10 : goal.put_byte-requires-else-n-lt10
put_byte-requires-else-n-lt10 t c =
    ends_right _ c.put_number-last.ensures (ends_as c.requires (decimal_more c.args.n c.if-n-lt10.false (omega arith)))

pub returns-then-n-lt10 : goal.returns-then-n-lt10
returns-then-n-lt10 t c = wrote_as c.put_byte.ensures (sym (decimal_one c.args.n c.if-n-lt10.true))

pub returns-else-n-lt10 : goal.returns-else-n-lt10
returns-else-n-lt10 t c =
    wrote_as (wrote_append c.put_number-last.ensures c.put_byte-else-n-lt10.ensures) (sym (decimal_more c.args.n c.if-n-lt10.false (omega arith)))
