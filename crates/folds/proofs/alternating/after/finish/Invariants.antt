-- s results are there.
use Rattle.algebra.specs.lines.Folds.{finish3}
use Rattle.numbers.specs.Value.{real, pair_of, on_values}
use Rattle.numbers.specs.Bounds.{res}
use Rattle.fold_formulas.specs.FoldFormulas.{tangent}
use Rattle.slices.specs.Pairs.{values_of}
use Rattle.slices.specs.Filling.{FillingPairs}
use Rattle.folds.proofs.alternating.after.finish.Given as goal

abbrev pub invariant-loop-s : goal.invariant-loop-s
invariant-loop-s l =
    FillingPairs (λ k. k) (λ k. pair_of (on_values l.m finish3 l.a (tangent l.m l.a l.tan) (values_of l.m l.fold) (real l.m (res l.m l.odd)) k)) l.a l.s l.fn.line l.line
