-- The map of a whole cell in the format MRC2014: its bytes, what the call refuses, and what it answers and leaves.
use Rattle.std.specs.Prelude.{◌≡◌, ◌+◌, ◌*◌, ◌<◌, ◌∷◌, ◌++◌}
use Rattle.algebra.specs.Prelude.{Bool, true, not, leb, ltb, ℕ, List, [], length}
use Rattle.algebra.specs.Prelude.{get_or}
use Rattle.algebra.specs.cells.Cell.{every_place}
use Rattle.signed.specs.Integers.{ℤ, nat_abs}
use Rattle.refusals.specs.Refusals.{Test, ◌⇒◌, first, accepted}
use Rattle.cell.specs.declared.operations.UnitCell.{UnitCell}
use Rattle.cell.specs.Operations.{cell_group, cell_halves, cell_lengths, Sizes}
use Rattle.cell.specs.Volume.{volume_length}
use Rattle.output.specs.Output.{each, little_endian, FillOutcome, filled, not_filled}
use Rattle.combined.specs.CombinedMap.{combined_map_tests}
use Rattle.mrc.specs.Floats.{float_of, bits, exact_limit}
use Rattle.mrc.specs.Parameters.{of_group}
use Rattle.mrc.specs.Header.{header_of, header_words}
use Rattle.mrc.specs.Ranges.{lesser, greater, density, of_cell}
use Rattle.mrc.specs.declared.parameters.CellParameters.{CellParameters}
use Rattle.mrc.specs.declared.file_header.MrcHeader.{MrcHeader}

-- the header: 256 words of four bytes
unfoldable pub header_bytes : MrcHeader → List ℕ
header_bytes h = each 256 (λ k. little_endian 4 (get_or (header_words h) k 0))

-- a density: the four bytes of its float
abbrev pub density_bytes : ℤ → List ℕ
density_bytes n = little_endian 4 (bits (float_of n))

-- the densities of the whole cell, x fastest
abbrev pub row_bytes : UnitCell → List ℤ → (z y : ℕ) → List ℕ
row_bytes cell v z y = each cell.n1 (λ x. density_bytes (density cell v (x, y, z)))

abbrev pub plane_bytes : UnitCell → List ℤ → (z : ℕ) → List ℕ
plane_bytes cell v z = each cell.n2 (λ y. row_bytes cell v z y)

abbrev pub cell_bytes : UnitCell → List ℤ → List ℕ
cell_bytes cell v = each cell.n3 (λ z. plane_bytes cell v z)

unfoldable pub mrc_bytes : UnitCell → List ℤ → CellParameters → List ℕ
mrc_bytes cell v parameters =
    header_bytes (header_of (cell_lengths cell) parameters (of_cell cell v lesser) (of_cell cell v greater)) ++
    cell_bytes cell v

-- how many bytes that is
abbrev pub file_length : UnitCell → ℕ
file_length cell = 1024 + cell.n3 * (cell.n2 * (cell.n1 * 4))

-- A point's place by the lengths: N1 points a row and N2 rows a section, four bytes each, behind the header. There the
-- file has the bytes of the point's density.
abbrev pub point_place : UnitCell → (x y z : ℕ) → ℕ
point_place cell x y z = 1024 + 4 * (x + cell.n1 * (y + cell.n2 * z))

abbrev pub PointsPlaced : Type 0
PointsPlaced =
    (cell : UnitCell) (v : List ℤ) (parameters : CellParameters) →
    (x y z byte : ℕ) → x < cell.n1 → y < cell.n2 → z < cell.n3 → byte < 4 →
    get_or (mrc_bytes cell v parameters) (point_place cell x y z + byte) 0
    ≡ get_or (density_bytes (density cell v (x, y, z))) byte 0

-- ---- The call: 8, 3, 9, 6 of the map, then 29, 30, 18

-- every density of the cell is a whole number that its float equals
unfoldable pub all_exact : UnitCell → List ℤ → Bool
all_exact cell v = every_place cell.n1 cell.n2 cell.n3 (λ x. leb (nat_abs (density cell v x)) exact_limit)

-- what is refused before the densities are read
abbrev pub parameter_tests : (group : ℕ) → CellParameters → List Test
parameter_tests group parameters = not (of_group group parameters) ⇒ 29 ∷ []

abbrev pub shape_tests : UnitCell → (length : ℕ) → CellParameters → List Test
shape_tests cell length parameters =
    combined_map_tests cell.group (cell_lengths cell) length ++ parameter_tests cell.group parameters

abbrev pub fill_tests : UnitCell → List ℤ → CellParameters → (room : ℕ) → List Test
fill_tests cell v parameters room =
    not (all_exact cell v) ⇒ 30 ∷
    ltb room (length (mrc_bytes cell v parameters)) ⇒ 18 ∷
    []

abbrev pub mrc_tests : UnitCell → List ℤ → CellParameters → (room : ℕ) → List Test
mrc_tests cell v parameters room = shape_tests cell (length v) parameters ++ fill_tests cell v parameters room

-- the bytes go to the output's first places; a refused call leaves it as it was
unfoldable pub mrc_step : UnitCell → List ℤ → CellParameters → (output : List ℕ) → FillOutcome
mrc_step cell v parameters output =
    accepted (first (mrc_tests cell v parameters (length output)))
    (filled (mrc_bytes cell v parameters) output)
    (not_filled output)

-- ---- what the writing functions ask: a map of the cell's length whose densities are all exact

pub record Writable (cell : UnitCell) (v : List ℤ) : Type 0 where
  pub sizes : Sizes cell
  pub long : length v ≡ volume_length (cell_group cell) (cell_halves cell)
  pub exact : all_exact cell v ≡ true
