-- The rows before x are added.
use Rattle.cell.specs.Operations.{cell_lengths}
use Rattle.section.specs.Section.{row_total}
use Rattle.section.proofs.Totals.{Summing}
use Rattle.section.proofs.sums.plane_total.Given as goal

abbrev pub invariant-loop-x : goal.invariant-loop-x
invariant-loop-x l = Summing (λ x. row_total l.cell.group (cell_lengths l.cell) l.map l.z x) l.cell.n1 l.x l.sum
