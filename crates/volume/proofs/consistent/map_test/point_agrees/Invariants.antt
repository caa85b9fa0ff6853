-- The images under the operations that were tried agree; the first is the identity.
use Rattle.algebra.specs.cells.Cell.{one, ops}
use Rattle.cell.specs.Operations.{cell_group, point_of}
use Rattle.cell.specs.Lent.{of_volume}
use Rattle.cell.specs.TestSteps.{point_image_agrees}
use Rattle.algebra.proofs.cells.Passing.{PassingMembers}
use Rattle.volume.proofs.consistent.map_test.point_agrees.Given as goal

abbrev pub invariant-loop-number : goal.invariant-loop-number
invariant-loop-number l = PassingMembers (ops (cell_group l.v.cell)) one (of_volume point_image_agrees l.v (point_of l.p)) l.number
