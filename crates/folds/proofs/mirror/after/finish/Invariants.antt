-- p places of the line are stored.
use Prim.Native.Nat.{◌+◌}
use Rattle.numbers.specs.Value.{value_of, pair_of}
use Rattle.folds.specs.FoldedLines.{stored_count, finished}
use Rattle.slices.specs.Filling.{FillingPairs}
use Rattle.folds.proofs.mirror.after.finish.Given as goal

abbrev pub invariant-loop-p : goal.invariant-loop-p
invariant-loop-p l =
    FillingPairs (λ k. k) (λ k. pair_of (finished l.m l.a l.first l.tan l.fold (value_of l.m l.o) (l.first + k))) (stored_count l.a l.first) l.p l.fn.line l.line
