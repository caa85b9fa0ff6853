-- `slices::copy`: j pairs are copied.
use Rattle.slices.specs.Pairs.{at}
use Rattle.slices.specs.Filling.{FillingPairs}
use Rattle.slices.proofs.copy.Given as goal

abbrev pub invariant-loop-j : goal.invariant-loop-j
invariant-loop-j l = FillingPairs (λ k. k) (at l.src) l.n l.j l.fn.dst l.dst
