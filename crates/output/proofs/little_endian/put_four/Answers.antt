-- Four bytes in a row.
use Rattle.std.proofs.Common.{arith}
use Rattle.output.specs.Output.{little_endian}
use Rattle.output.proofs.LittleEndian.{little_four}
use Rattle.output.proofs.Writing.{wrote_append, wrote_as}
use Rattle.output.proofs.little_endian.put_four.Goals as goal

pub put_byte-second-requires : goal.put_byte-second-requires
unfolding little_endian
put_byte-second-requires c = record { low = omega arith }

pub put_byte-third-requires : goal.put_byte-third-requires
unfolding little_endian
put_byte-third-requires c = record { low = omega arith }

pub put_byte-fourth-requires : goal.put_byte-fourth-requires
unfolding little_endian
put_byte-fourth-requires c = record { low = omega arith }

pub put_byte-requires : goal.put_byte-requires
unfolding little_endian
put_byte-requires c = record { low = omega arith }

pub returns : goal.returns
returns c =
    wrote_as
    (wrote_append c.put_byte-second.ensures (wrote_append c.put_byte-third.ensures (wrote_append c.put_byte-fourth.ensures c.put_byte.ensures)))
    (little_four c.args.x (omega arith))
