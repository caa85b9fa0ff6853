-- The factors before k agree.
use Rattle.std.proofs.Common.{◌≡◌, true}
use Rattle.algebra.specs.cells.Cell.{below}
use Rattle.cell.specs.Consistency.{line_agrees}
use Rattle.cell.specs.Lent.{of_residues}
use Rattle.volume.proofs.consistent.factor_test.row_agrees.Given as goal

abbrev pub invariant-loop-k : goal.invariant-loop-k
invariant-loop-k l = below l.k (λ k. of_residues line_agrees l.r (l.h, k, l.l)) ≡ true
