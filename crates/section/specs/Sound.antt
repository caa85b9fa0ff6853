-- What the work of the call may take for granted: a map of a cell, and a plane of it whose numbers are within the
-- range.
use Rattle.std.specs.Prelude.{◌≡◌, ◌<◌}
use Rattle.algebra.specs.Prelude.{true, ℕ, List, length}
use Rattle.signed.specs.Integers.{ℤ}
use Rattle.cell.specs.declared.operations.UnitCell.{UnitCell}
use Rattle.cell.specs.Operations.{cell_group, cell_lengths, cell_halves, Sizes}
use Rattle.cell.specs.Volume.{volume_length}
use Rattle.section.specs.Section.{plane_within}

pub record Plane (cell : UnitCell) (v : List ℤ) (z : ℕ) : Type 0 where
  pub sizes : Sizes cell
  pub long : length v ≡ volume_length (cell_group cell) (cell_halves cell)
  pub inside : z < cell.n3

pub record Sound (cell : UnitCell) (v : List ℤ) (z : ℕ) : Type 0 where
  pub plane : Plane cell v z
  pub within : plane_within cell.group (cell_lengths cell) v z ≡ true
