-- The factors that were taken off are written.
use Rattle.factor_lists.proofs.Choosing.{Choosing}
use Rattle.factor_lists.proofs.put_factors.Given as goal

abbrev pub invariant-loop-rest : goal.invariant-loop-rest
invariant-loop-rest l = Choosing l.n l.fn.out l.rest l.at l.out

abbrev pub decreases-loop-rest : goal.decreases-loop-rest
decreases-loop-rest l = l.rest
