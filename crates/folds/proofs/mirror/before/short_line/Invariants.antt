-- t places of the short line are stored.
use Rattle.algebra.specs.lines.Folds.{mirror_point}
use Rattle.numbers.specs.Value.{field, pair_of}
use Rattle.folds.specs.FoldedLines.{whole_line}
use Rattle.slices.specs.Filling.{FillingPairs}
use Rattle.folds.proofs.mirror.before.short_line.Given as goal

abbrev pub invariant-loop-t : goal.invariant-loop-t
invariant-loop-t l =
    FillingPairs (λ k. k) (λ k. pair_of (mirror_point (field l.m) (whole_line l.m l.a l.first l.line) k)) l.a l.t l.fn.fold l.fold
