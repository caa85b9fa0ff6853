-- t of the parts are in s; 1,440 of them are far from filling it.
use Rattle.folds.proofs.alternating.before.Sums.{OddSum}
use Rattle.folds.proofs.alternating.before.odd_imaginary_sum.Given as goal

abbrev pub invariant-loop-t : goal.invariant-loop-t
invariant-loop-t l =
    OddSum l.m l.a l.line l.s l.t
