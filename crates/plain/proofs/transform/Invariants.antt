-- The loop's invariant is `Driving`: the line has what the steps that are done leave of what came in.
use Rattle.roots.specs.Table.{table_root}
use Rattle.plain.proofs.Driving.{Driving}
use Rattle.plain.proofs.transform.Given as goal

abbrev pub invariant-loop-at : goal.invariant-loop-at
invariant-loop-at l = Driving l.m (table_root l.m l.re l.im) l.factors l.n l.at l.fn.line l.fn.work l.line l.work

abbrev pub decreases-loop-at : goal.decreases-loop-at
decreases-loop-at l = l.at.left
