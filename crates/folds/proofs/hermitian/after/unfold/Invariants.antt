-- t pairs of the line are stored.
use Rattle.algebra.specs.lines.Folds.{back1}
use Rattle.numbers.specs.Value.{conj, real, pair_of, on_values}
use Rattle.numbers.specs.Bounds.{res}
use Rattle.fold_formulas.specs.FoldFormulas.{line_root}
use Rattle.folds.specs.FoldedLines.{from_hermitian}
use Rattle.slices.specs.Pairs.{values_of}
use Rattle.slices.specs.Filling.{FillingPairs}
use Rattle.folds.proofs.hermitian.after.unfold.Given as goal

abbrev pub invariant-loop-t : goal.invariant-loop-t
invariant-loop-t l =
    FillingPairs (λ k. k) (λ k. pair_of (from_hermitian l.m l.anti (on_values l.m back1 l.a (real l.m (res l.m l.c)) (conj l.m (line_root l.m l.a l.re l.im)) (values_of l.m l.fold)) k)) l.a l.t l.fn.out l.out
