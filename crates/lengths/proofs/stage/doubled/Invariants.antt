-- The factors that are passed are kept.
use Rattle.lengths.proofs.stage.Doubling.{Doubling}
use Rattle.lengths.proofs.stage.doubled.Given as goal

abbrev pub invariant-loop-left : goal.invariant-loop-left
invariant-loop-left l = Doubling l.factors l.left l.place

abbrev pub decreases-loop-left : goal.decreases-loop-left
decreases-loop-left l = l.left
