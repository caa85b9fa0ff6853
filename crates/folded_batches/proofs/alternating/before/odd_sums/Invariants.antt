-- t places are in the sums.
use Rattle.folded_batches.specs.AlternatingLanes.{OddSums}
use Rattle.folded_batches.proofs.alternating.before.odd_sums.Given as goal

abbrev pub invariant-loop-t : goal.invariant-loop-t
invariant-loop-t l = OddSums l.m l.a l.line l.t l.y
