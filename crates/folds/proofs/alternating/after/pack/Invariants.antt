-- t pairs of the line are there.
use Rattle.algebra.specs.lines.Folds.{line3}
use Rattle.algebra.specs.lines.Packings.{pack_b3}
use Rattle.numbers.specs.Value.{real, pair_of, on_values}
use Rattle.numbers.specs.Bounds.{res}
use Rattle.slices.specs.Pairs.{values_of}
use Rattle.slices.specs.Filling.{FillingPairs}
use Rattle.folds.proofs.alternating.after.pack.Given as goal

abbrev pub invariant-loop-t : goal.invariant-loop-t
invariant-loop-t l =
    FillingPairs (λ k. k) (λ k. pair_of (on_values l.m pack_b3 l.a (on_values l.m line3 l.a (real l.m (res l.m l.part)) (values_of l.m l.fold) (real l.m (res l.m l.twice))) k)) l.a l.t l.fn.line l.line
