use Rattle.roots.specs.Table.{table_root}
use Rattle.batches.proofs.DrivingLanes.{DrivingLanes}
use Rattle.batches.proofs.transform.transform.Given as goal

abbrev pub invariant-loop-at : goal.invariant-loop-at
invariant-loop-at l = DrivingLanes l.m (table_root l.m l.re l.im) l.factors l.n l.at l.fn.line l.line l.work

abbrev pub decreases-loop-at : goal.decreases-loop-at
decreases-loop-at l = l.at.left
