-- The high byte, then the low one.
use Rattle.std.proofs.Common.{arith}
use Rattle.output.specs.Output.{big_endian}
use Rattle.output.proofs.BigEndian.{two_bytes_lem}
use Rattle.output.proofs.Writing.{wrote_append, wrote_as}
use Rattle.output.proofs.big_endian.put_two.Goals as goal

pub put_byte-low-requires : goal.put_byte-low-requires
unfolding big_endian
put_byte-low-requires c = record { low = omega arith }

pub put_byte-requires : goal.put_byte-requires
unfolding big_endian
put_byte-requires c = record { low = omega arith }

pub returns : goal.returns
returns c = wrote_as (wrote_append c.put_byte-low.ensures c.put_byte.ensures) (two_bytes_lem c.args.x c.requires.0)
