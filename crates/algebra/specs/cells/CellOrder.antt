-- The order of the places of a cell.
use Rattle.std.specs.Prelude.{◌≡◌, ◌<◌}
use Rattle.algebra.specs.cells.Cell.{J}

-- i comes before j: at the first of h, k, l in which they differ i has the lower number
pub data Before (i j : J) : Type 0 where
  by_h : i.0 < j.0 → Before i j
  by_k : i.0 ≡ j.0 → i.1 < j.1 → Before i j
  by_l : i.0 ≡ j.0 → i.1 ≡ j.1 → i.2 < j.2 → Before i j
