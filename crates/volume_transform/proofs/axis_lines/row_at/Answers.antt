-- A row along k has neighbouring places.
use native.Mathlib.Omega.{arith}
use Rattle.volume_transform.proofs.plan.JobTurns.{row_low}
use Rattle.volume_transform.proofs.plan.AxisLines.{row_k}
use Rattle.volume_transform.proofs.plan.Neighbours.{rows_after}
use Rattle.volume_transform.proofs.axis_lines.row_at.Goals as goal

pub overflow_mul-result : goal.overflow_mul-result
overflow_mul-result c = omega (arith, row_low c.requires.0.sizes.sizes c.args.y c.requires.1)

pub returns : goal.returns
returns c = record { row = row_k c.args.plan c.requires.0 c.args.y c.requires.1; rows_after = rows_after c.args.plan c.requires.0 c.args.y }
