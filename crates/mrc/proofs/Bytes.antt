-- How many bytes the parts of a file have.
use mathlib.Core.Path.{◌≡◌, ◌∙◌, ap}
use mathlib.Core.Logic.{⊎_elim}
use mathlib.Core.List.{List, ◌++◌}
use Prim.Native.Nat.{ℕ, zero, suc, ◌+◌, ◌*◌, ◌<◌, ◌≤◌}
use native.Mathlib.Nat.{le_trans, le_antisymm, le_of_suc-le-suc, not-suc-le-zero, mul-le-mul_left, mul-le-mul_right}
use native.Mathlib.Omega.{arith}
use lib.ListN.{length, get_or, length-append, get_or-append}
use lib.Seq.{get_or-append-add}
use lib.IntN.{ℤ}
use Rattle.algebra.proofs.ring.Laws.{along}
use Rattle.slices.proofs.Pairs.{lt_or_ge}
use Rattle.slices.proofs.Rows.{row_end}
use Rattle.cell.specs.declared.operations.UnitCell.{UnitCell}
use Rattle.cell.specs.Operations.{cell_lengths, Sizes}
use Rattle.output.specs.Output.{each}
use Rattle.output.specs.Written.{Ends}
use Rattle.output.proofs.LittleEndian.{length_little}
use Rattle.mrc.specs.Floats.{float_of, bits}
use Rattle.mrc.specs.Header.{header_of}
use Rattle.mrc.specs.Ranges.{lesser, greater, density, of_cell}
use Rattle.mrc.specs.Mrc.{header_bytes, density_bytes, row_bytes, plane_bytes, cell_bytes, mrc_bytes, file_length, point_place, PointsPlaced}
use Rattle.mrc.specs.declared.parameters.CellParameters.{CellParameters}
use Rattle.mrc.specs.declared.file_header.MrcHeader.{MrcHeader}

-- n things of k bytes
pub length_each : (n k : ℕ) (f : ℕ → List ℕ) → ((j : ℕ) → length (f j) ≡ k) → length (each n f) ≡ n * k
unfolding each
length_each zero k f h = omega arith
length_each (suc n) k f h = length-append (each n f) (f n) ∙ omega (arith, length_each n k f h, h n)

pub length_header : (h : MrcHeader) → length (header_bytes h) ≡ 1024
unfolding header_bytes
length_header h = length_each 256 4 _ (λ k. length_little 4 _)

length_row : (cell : UnitCell) (v : List ℤ) (z y : ℕ) → length (row_bytes cell v z y) ≡ cell.n1 * 4
length_row cell v z y = length_each cell.n1 4 _ (λ x. length_little 4 (bits (float_of (density cell v (x, y, z)))))

length_plane : (cell : UnitCell) (v : List ℤ) (z : ℕ) → length (plane_bytes cell v z) ≡ cell.n2 * (cell.n1 * 4)
length_plane cell v z = length_each cell.n2 (cell.n1 * 4) (row_bytes cell v z) (length_row cell v z)

pub length_cell : (cell : UnitCell) (v : List ℤ) → length (cell_bytes cell v) ≡ cell.n3 * (cell.n2 * (cell.n1 * 4))
length_cell cell v = length_each cell.n3 (cell.n2 * (cell.n1 * 4)) (plane_bytes cell v) (length_plane cell v)

pub length_file : (cell : UnitCell) (v : List ℤ) (parameters : CellParameters) → length (mrc_bytes cell v parameters) ≡ file_length cell
unfolding mrc_bytes
length_file cell v parameters =
    let h = header_of (cell_lengths cell) parameters (of_cell cell v lesser) (of_cell cell v greater) in
    length-append (header_bytes h) (cell_bytes cell v) ∙ omega (arith, length_header h, length_cell cell v)

-- ---- where a byte stands

-- byte i of thing j
pub each_byte : (n k : ℕ) (f : ℕ → List ℕ) → ((j : ℕ) → length (f j) ≡ k) → (j i : ℕ) → j < n → i < k → get_or (each n f) (j * k + i) 0 ≡ get_or (f j) i 0
unfolding each
each_byte zero k f h j i l m = absurd (not-suc-le-zero l)
each_byte (suc n) k f h j i l m = ⊎_elim
    (λ (q : j < n). get_or-append (each n f) (f n) 0 (j * k + i) (omega (arith, row_end k q, length_each n k f h)) ∙ each_byte n k f h j i q m)
    (λ (q : n ≤ j). last (le_antisymm q (le_of_suc-le-suc l)))
    (lt_or_ge j n)
  where
    last : n ≡ j → get_or (each n f ++ f n) (j * k + i) 0 ≡ get_or (f j) i 0
    last e =
        along (λ (p : ℕ). get_or (each n f ++ f n) p 0) (j * k + i) (length (each n f) + i) (omega (arith, length_each n k f h, ap (λ (p : ℕ). p * k) e))
        ∙ get_or-append-add (each n f) (f n) i 0
        ∙ ap (λ (p : ℕ). get_or (f p) i 0) e

module _ (cell : UnitCell) (v : List ℤ) (x y z byte : ℕ) (lx : x < cell.n1) (ly : y < cell.n2) (lz : z < cell.n3) (lb : byte < 4) where
  -- in its row, its plane, and the cell
  abbrev in_row : ℕ
  in_row = x * 4 + byte

  abbrev in_plane : ℕ
  in_plane = y * (cell.n1 * 4) + in_row

  in_row_low : in_row < cell.n1 * 4
  in_row_low = omega (arith, row_end 4 lx)

  in_plane_low : in_plane < cell.n2 * (cell.n1 * 4)
  in_plane_low = omega (arith, row_end (cell.n1 * 4) ly, in_row_low)

  point_byte : get_or (cell_bytes cell v) (z * (cell.n2 * (cell.n1 * 4)) + in_plane) 0 ≡ get_or (density_bytes (density cell v (x, y, z))) byte 0
  point_byte =
      each_byte cell.n3 (cell.n2 * (cell.n1 * 4)) (plane_bytes cell v) (length_plane cell v) z in_plane lz in_plane_low
      ∙ each_byte cell.n2 (cell.n1 * 4) (row_bytes cell v z) (length_row cell v z) y in_row ly in_row_low
      ∙ each_byte cell.n1 4 (λ x. density_bytes (density cell v (x, y, z))) (λ x. length_little 4 (bits (float_of (density cell v (x, y, z))))) x byte lx lb

pub points_placed : PointsPlaced
unfolding mrc_bytes
points_placed cell v parameters x y z byte lx ly lz lb =
    let h = header_of (cell_lengths cell) parameters (of_cell cell v lesser) (of_cell cell v greater) in
    along (λ (p : ℕ). get_or (header_bytes h ++ cell_bytes cell v) p 0) (point_place cell x y z + byte) (length (header_bytes h) + (z * (cell.n2 * (cell.n1 * 4)) + (y * (cell.n1 * 4) + (x * 4 + byte)))) (omega (arith, length_header h))
    ∙ get_or-append-add (header_bytes h) (cell_bytes cell v) (z * (cell.n2 * (cell.n1 * 4)) + (y * (cell.n1 * 4) + (x * 4 + byte))) 0
    ∙ point_byte cell v x y z byte lx ly lz lb

-- a machine word counts them
product_most : (a b m k : ℕ) → a ≤ m → b ≤ k → a * b ≤ m * k
product_most a b m k h l = le_trans (mul-le-mul_right b h) (mul-le-mul_left m l)

pub row_small : (cell : UnitCell) → Sizes cell → cell.n2 * (cell.n1 * 4) ≤ 33177600
row_small cell s = product_most cell.n2 (cell.n1 * 4) 2880 11520 s.second.high (omega (arith, s.first.high))

pub cell_small : (cell : UnitCell) → Sizes cell → cell.n3 * (cell.n2 * (cell.n1 * 4)) ≤ 95551488000
cell_small cell s = product_most cell.n3 (cell.n2 * (cell.n1 * 4)) 2880 33177600 s.third.high (row_small cell s)

pub file_ends : (cell : UnitCell) (v : List ℤ) (parameters : CellParameters) → Sizes cell → Ends 0 (mrc_bytes cell v parameters)
file_ends cell v parameters s = record { low = omega (arith, length_file cell v parameters, cell_small cell s) }
