-- Above 0, and below 180 then.
use Rattle.mrc.proofs.EdgesAngles.{between_ends}
use Rattle.mrc.proofs.parameters.is_angle.Goals as goal

pub returns-then-x : goal.returns-then-x
returns-then-x c = between_ends c.args.x _ c.if-x.true

pub returns-else-x : goal.returns-else-x
returns-else-x c = between_ends c.args.x _ c.if-x.false
