-- The high half, then the low one.
use Rattle.std.proofs.Common.{arith}
use Rattle.output.specs.Output.{big_endian}
use Rattle.output.proofs.BigEndian.{four_bytes_lem}
use Rattle.output.proofs.Writing.{wrote_append, wrote_as}
use Rattle.output.proofs.big_endian.put_four.Goals as goal

pub put_two-low-requires : goal.put_two-low-requires
unfolding big_endian
put_two-low-requires c = (omega arith, record { low = omega arith })

pub put_two-requires : goal.put_two-requires
unfolding big_endian
put_two-requires c = (omega arith, record { low = omega arith })

pub returns : goal.returns
returns c = wrote_as (wrote_append c.put_two-low.ensures c.put_two.ensures) (four_bytes_lem c.args.x)
