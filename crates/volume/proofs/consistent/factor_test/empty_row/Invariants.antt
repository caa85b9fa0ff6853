-- The lines before k have empty ends.
use Rattle.std.proofs.Common.{◌≡◌, true}
use Rattle.algebra.specs.cells.Cell.{below}
use Rattle.cell.specs.TestSteps.{empty_ends}
use Rattle.cell.specs.Lent.{of_volume}
use Rattle.volume.proofs.consistent.factor_test.empty_row.Given as goal

abbrev pub invariant-loop-k : goal.invariant-loop-k
invariant-loop-k l = below l.k (of_volume empty_ends l.v l.h) ≡ true
