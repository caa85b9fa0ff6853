-- t pairs of the short line are there.
use Rattle.algebra.specs.lines.Folds.{alternating_point}
use Rattle.algebra.specs.lines.Packings.{unfold_b3}
use Rattle.numbers.specs.Value.{field, i, pair_of, on_values}
use Rattle.slices.specs.Pairs.{values_of}
use Rattle.slices.specs.Filling.{FillingPairs}
use Rattle.folds.proofs.alternating.before.short_line.Given as goal

abbrev pub invariant-loop-t : goal.invariant-loop-t
invariant-loop-t l =
    FillingPairs (λ k. k) (λ k. pair_of (alternating_point (field l.m) (i l.m) (on_values l.m unfold_b3 l.a (values_of l.m l.line)) k)) l.a l.t l.fn.fold l.fold
