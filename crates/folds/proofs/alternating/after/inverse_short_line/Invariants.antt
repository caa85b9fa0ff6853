-- s pairs of the short line are there.
use Rattle.algebra.specs.lines.Folds.{alternating_spectrum}
use Rattle.numbers.specs.Value.{field, pair_of, on_values}
use Rattle.fold_formulas.specs.FoldFormulas.{tangent}
use Rattle.slices.specs.Pairs.{values_of}
use Rattle.slices.specs.Filling.{FillingPairs}
use Rattle.folds.proofs.alternating.after.inverse_short_line.Given as goal

abbrev pub invariant-loop-s : goal.invariant-loop-s
invariant-loop-s l =
    FillingPairs (λ k. k) (λ k. pair_of (on_values l.m alternating_spectrum l.a (λ s. (field l.m).neg (tangent l.m l.a l.tan s)) (values_of l.m l.line) k)) l.a l.s l.fn.fold l.fold
