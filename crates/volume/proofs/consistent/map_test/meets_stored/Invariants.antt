-- The images under the operations that were tried lie in planes that are not stored; the first operation is the identity.
use Rattle.std.proofs.Common.{List, ℕ}
use Rattle.algebra.specs.cells.Cell.{one, ops}
use Rattle.cell.specs.Operations.{cell_group, cell_halves}
use Rattle.cell.specs.TestSteps.{point_image_agrees}
use Rattle.algebra.proofs.cells.Passing.{PassingMembers}
use Rattle.volume.proofs.consistent.map_test.meets_stored.Given as goal

abbrev pub invariant-loop-number : goal.invariant-loop-number
invariant-loop-number l =
    (v : List ℕ) (x y : ℕ) → PassingMembers (ops (cell_group l.cell)) one (point_image_agrees (cell_group l.cell) (cell_halves l.cell) v (x, y, l.z)) l.number
