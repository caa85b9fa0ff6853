-- t pairs of the short line are stored.
use Rattle.algebra.specs.lines.Folds.{fold1}
use Rattle.numbers.specs.Value.{pair_of, on_values}
use Rattle.fold_formulas.specs.FoldFormulas.{line_root}
use Rattle.folds.specs.FoldedLines.{to_hermitian}
use Rattle.slices.specs.Pairs.{values_of}
use Rattle.slices.specs.Filling.{FillingPairs}
use Rattle.folds.proofs.hermitian.before.short_line.Given as goal

abbrev pub invariant-loop-t : goal.invariant-loop-t
invariant-loop-t l =
    FillingPairs (λ k. k) (λ k. pair_of (on_values l.m fold1 l.a (line_root l.m l.a l.re l.im) (to_hermitian l.m l.anti (values_of l.m l.line)) k)) l.a l.t l.fn.out l.out
