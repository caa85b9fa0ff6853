-- The rows before x are within the range.
use Rattle.algebra.proofs.cells.Passing.{Passing}
use Rattle.cell.specs.Operations.{cell_lengths}
use Rattle.section.specs.Section.{row_within}
use Rattle.section.proofs.check.plane_within.Given as goal

abbrev pub invariant-loop-x : goal.invariant-loop-x
invariant-loop-x l = Passing (row_within l.cell.group (cell_lengths l.cell) l.map l.z) l.cell.n1 l.x
