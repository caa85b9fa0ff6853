-- What a viewer finds in a file that is written: the density of each point of the cell, where the header's own numbers
-- say that it stands; and which maps have no file because a float cannot hold a density.
use Rattle.std.specs.Prelude.{◌≡◌, ◌↔◌, ◌+◌, ◌*◌, ◌<◌}
use Rattle.algebra.specs.Prelude.{ℕ, List, length, get_or}
use Rattle.algebra.specs.cells.Cell.{Cell}
use Rattle.signed.specs.Integers.{ℤ, pos, nat_abs}
use Rattle.std.specs.Int.Signed.{lt_z}
use Rattle.std.specs.Float.Ieee.Exact.{HasValue}
use Rattle.refusals.specs.Refusals.{first}
use Rattle.cell.specs.declared.operations.UnitCell.{UnitCell}
use Rattle.cell.specs.Operations.{cell_group, cell_halves}
use Rattle.combined.specs.CombinedMap.{pack_signed, Symmetric}
use Rattle.mrc.specs.Floats.{Float, binary32, of_bits}
use Rattle.mrc.specs.HeaderRead.{word_in}
use Rattle.mrc.specs.Ranges.{density}
use Rattle.mrc.specs.Mrc.{mrc_bytes, shape_tests, mrc_tests}
use Rattle.mrc.specs.declared.parameters.CellParameters.{CellParameters}

-- ---- the points

-- the float of the four bytes from a place on, the least significant first
abbrev pub float_from : List ℕ → (place : ℕ) → Float
float_from file p =
    of_bits binary32
    (get_or file p 0 + 256 * (get_or file (p + 1) 0 + 256 * (get_or file (p + 2) 0 + 256 * get_or file (p + 3) 0)))

-- Where the format has point (x, y, z): behind the header's 1,024 bytes and the extended header's NSYMBT, which is word
-- 24, four bytes a point, NX points a row, NY rows a section; NX, NY and NZ are the words 1, 2 and 3.
abbrev pub point_in : List ℕ → (x y z : ℕ) → ℕ
point_in file x y z = 1024 + word_in file 24 + 4 * (x + word_in file 1 * (y + word_in file 2 * z))

-- the file has a cell's number at every point of its NX · NY · NZ, as the float that is exactly it
pub record Shows (file : List ℕ) (M : Cell ℤ) : Type 0 where
  pub value :
      (x y z : ℕ) → x < word_in file 1 → y < word_in file 2 → z < word_in file 3 →
      HasValue (float_from file (point_in file x y z)) (lt_z (M x y z) (pos 0)) (nat_abs (M x y z)) 1

-- of the combined map of a symmetric cell, on every plane, stored or not
pub record PointsViewed : Type 0 where
  pub each :
      (cell : UnitCell) (M : Cell ℤ) → Symmetric (cell_group cell) (cell_halves cell) M →
      (parameters : CellParameters) (room : ℕ) →
      0 ≡ first (mrc_tests cell (pack_signed (cell_group cell) (cell_halves cell) M) parameters room) →
      Shows (mrc_bytes cell (pack_signed (cell_group cell) (cell_halves cell) M) parameters) M

-- ---- 30

-- a point of the cell has a magnitude above 16,777,215
pub record Exceeds (cell : UnitCell) (v : List ℤ) : Type 0 where
  pub x : ℕ
  pub y : ℕ
  pub z : ℕ
  pub x_inside : x < cell.n1
  pub y_inside : y < cell.n2
  pub z_inside : z < cell.n3
  pub above : 16777215 < nat_abs (density cell v (x, y, z))

-- where the map's shape and the unit cell are taken, 30 is answered exactly if there is one
pub record FloatLimit : Type 0 where
  pub exactly :
      (cell : UnitCell) (v : List ℤ) (parameters : CellParameters) (room : ℕ) →
      0 ≡ first (shape_tests cell (length v) parameters) →
      (first (mrc_tests cell v parameters room) ≡ 30) ↔ Exceeds cell v
