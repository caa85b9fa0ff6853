-- Above 0, and below the infinity then.
use lib.Ieee.{nan_bits}
use Rattle.mrc.proofs.EdgesAngles.{below_infinity, not_above}
use Rattle.mrc.proofs.parameters.is_edge.Goals as goal

pub float_from_bits-result : goal.float_from_bits-result
unfolding nan_bits
float_from_bits-result c = tt

pub returns-then-x : goal.returns-then-x
returns-then-x c = below_infinity c.args.x c.if-x.true

pub returns-else-x : goal.returns-else-x
returns-else-x c = not_above c.args.x c.if-x.false
