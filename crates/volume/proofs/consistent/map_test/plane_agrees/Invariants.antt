-- The rows before x agree.
use Rattle.std.proofs.Common.{◌≡◌, true}
use Rattle.algebra.specs.cells.Cell.{below}
use Rattle.cell.specs.Lent.{of_volume}
use Rattle.cell.specs.TestSteps.{row_agrees}
use Rattle.volume.proofs.consistent.map_test.plane_agrees.Given as goal

abbrev pub invariant-loop-x : goal.invariant-loop-x
invariant-loop-x l = below l.x (of_volume row_agrees l.v l.z) ≡ true
