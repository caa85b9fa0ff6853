-- t of the odd places are summed, and the sum is reduced once; those of an antisymmetric line sum to zero.
use Rattle.folds.proofs.mirror.before.Forms.{OddSum}
use Rattle.folds.proofs.mirror.before.odd_sum.Given as goal

abbrev pub invariant-loop-t : goal.invariant-loop-t
invariant-loop-t l =
    OddSum l.m l.a l.first l.line l.s l.t
