-- A header and its unit cell.
use Rattle.std.specs.Prelude.{List, ℕ}
use Rattle.cell.specs.declared.operations.UnitCell.{UnitCell}
use Rattle.cell.specs.Operations.{cell_lengths}
use Rattle.header.specs.Header.{Header}

-- the cell of a header, and the header of a cell and three lists
abbrev pub header_cell : Header → UnitCell
header_cell h = record { group = h.group; n1 = h.lengths.0; n2 = h.lengths.1; n3 = h.lengths.2 }

abbrev pub cell_header : UnitCell → (list1 list2 list3 : List ℕ) → Header
cell_header c list1 list2 list3 =
    record { group = c.group; lengths = cell_lengths c; list1 = list1; list2 = list2; list3 = list3 }
