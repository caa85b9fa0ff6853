-- The numbers before y are within the range.
use lib.Dec.{leb}
use lib.IntN.{nat_abs}
use Rattle.algebra.proofs.cells.Passing.{Passing}
use Rattle.cell.specs.Operations.{cell_lengths}
use Rattle.combined.specs.CombinedMap.{limit}
use Rattle.section.specs.Section.{section_at}
use Rattle.section.proofs.check.row_within.Given as goal

abbrev pub invariant-loop-y : goal.invariant-loop-y
invariant-loop-y l = Passing (λ y. leb (nat_abs (section_at l.cell.group (cell_lengths l.cell) l.map l.z l.x y)) limit) l.cell.n2 l.y
