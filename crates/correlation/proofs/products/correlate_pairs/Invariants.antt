-- In place: the pairs before j are products.
use Rattle.numbers.specs.Value.{pair_of}
use Rattle.slices.specs.Filling.{FillingPairs}
use Rattle.correlation.specs.Steps.{correlated}
use Rattle.correlation.proofs.products.correlate_pairs.Given as goal

abbrev pub invariant-loop-j : goal.invariant-loop-j
invariant-loop-j l = FillingPairs (λ k. k) (λ t. pair_of (correlated l.m l.c l.fn.first l.second t)) l.n l.j l.fn.first l.first
