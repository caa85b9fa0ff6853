-- The operations that were tried agree; the first is the identity.
use Rattle.algebra.specs.cells.Cell.{one, full}
use Rattle.cell.specs.Operations.{cell_group, triple_of}
use Rattle.cell.specs.Lent.{of_residues}
use Rattle.cell.specs.TestSteps.{image_agrees}
use Rattle.algebra.proofs.cells.Passing.{PassingMembers}
use Rattle.volume.proofs.consistent.factor_test.images_agree.Given as goal

abbrev pub invariant-loop-number : goal.invariant-loop-number
invariant-loop-number l = PassingMembers (full (cell_group l.r.cell)) one (of_residues image_agrees l.r (triple_of l.j)) l.number
