-- The least and the greatest of many numbers: of a row of them, of the points of a cell, of those that a map stores.
use Rattle.algebra.specs.Prelude.{cond, ℕ, zero, suc, List}
use Rattle.algebra.specs.cells.Cell.{J}
use Rattle.signed.specs.Integers.{ℤ}
use Rattle.std.specs.Int.Signed.{lt_z}
use Rattle.std.specs.Prelude.{◌≤ℤ◌, ◌≡◌, ◌<◌}
use Rattle.cell.specs.declared.operations.UnitCell.{UnitCell}
use Rattle.cell.specs.Operations.{cell_group, cell_halves, Sizes}
use Rattle.cell.specs.Volume.{layers}
use Rattle.combined.specs.CombinedMap.{count_of}
use Rattle.mrc.specs.declared.ranges.DensityRange.{DensityRange}

-- of two numbers
abbrev pub lesser : ℤ → ℤ → ℤ
lesser x y = cond (lt_z y x) y x

abbrev pub greater : ℤ → ℤ → ℤ
greater x y = cond (lt_z x y) y x

-- of f 0, f 1, .., f (n - 1), of which there is one at least
unfoldable pub among : (pick : ℤ → ℤ → ℤ) (n : ℕ) (f : ℕ → ℤ) → ℤ
among pick zero f = f 0
among pick (suc n) f = pick (among pick n f) (f n)

-- a range has the least and the greatest of some numbers
pub record Spans (r : DensityRange) (numbers : (pick : ℤ → ℤ → ℤ) → ℤ) : Type 0 where
  pub low : r.least ≡ numbers lesser
  pub high : r.greatest ≡ numbers greater

module _ (cell : UnitCell) (v : List ℤ) where
  -- the density at a point of the cell
  abbrev pub density : J → ℤ
  density x = count_of (cell_group cell) (cell_halves cell) v x

  -- of the densities of the whole cell, and of those of the stored planes
  unfoldable pub of_cell : (pick : ℤ → ℤ → ℤ) → ℤ
  of_cell pick =
      among pick cell.n3 (λ z. among pick cell.n2 (λ y. among pick cell.n1 (λ x. density (x, y, z))))

  abbrev pub of_row : (z x : ℕ) (pick : ℤ → ℤ → ℤ) → ℤ
  of_row z x pick = among pick cell.n2 (λ y. density (x, y, z))

  abbrev pub of_plane : (z : ℕ) (pick : ℤ → ℤ → ℤ) → ℤ
  of_plane z pick = among pick cell.n1 (λ x. of_row z x pick)

  unfoldable pub of_stored : (pick : ℤ → ℤ → ℤ) → ℤ
  of_stored pick = among pick (layers (cell_group cell) (cell_halves cell)) (λ z. of_plane z pick)

  -- m is the density of a point of the cell
  pub record Attained (m : ℤ) : Type 0 where
    pub x : ℕ
    pub y : ℕ
    pub z : ℕ
    pub x_inside : x < cell.n1
    pub y_inside : y < cell.n2
    pub z_inside : z < cell.n3
    pub there : density (x, y, z) ≡ m

  -- the least and the greatest density: one of a point each, none less, none greater; the stored points have the same
  pub record CellRange : Type 0 where
    pub least_at : Attained (of_cell lesser)
    pub greatest_at : Attained (of_cell greater)
    pub none_less : (x y z : ℕ) → x < cell.n1 → y < cell.n2 → z < cell.n3 →
        of_cell lesser ≤ℤ density (x, y, z)
    pub none_greater : (x y z : ℕ) → x < cell.n1 → y < cell.n2 → z < cell.n3 →
        density (x, y, z) ≤ℤ of_cell greater
    pub least_stored : of_stored lesser ≡ of_cell lesser
    pub greatest_stored : of_stored greater ≡ of_cell greater

-- of every map of an accepted cell
abbrev pub CellValues : Type 0
CellValues = (cell : UnitCell) (v : List ℤ) → Sizes cell → CellRange cell v
