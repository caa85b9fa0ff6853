-- The numbers before y are added.
use Rattle.cell.specs.Operations.{cell_lengths}
use Rattle.section.specs.Section.{section_at}
use Rattle.section.proofs.Totals.{Summing}
use Rattle.section.proofs.sums.row_total.Given as goal

abbrev pub invariant-loop-y : goal.invariant-loop-y
invariant-loop-y l = Summing (λ y. section_at l.cell.group (cell_lengths l.cell) l.map l.z l.x y) l.cell.n2 l.y l.sum
