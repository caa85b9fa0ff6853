-- The tests of refusal 14 step by step: what they are lent, and what one line's ends and one row must show.
use Rattle.std.specs.Prelude.{◌≡◌, Bool, true, false, ◌&&◌, List, ℕ, ◌+◌, ◌*◌, ◌/◌, ◌<◌, ◌≤◌, length, eqb, ltb}
use Rattle.algebra.specs.cells.Cell.{Sym, Sym.sym, J, Group, span, below, every_place, imply}
use Rattle.numbers.specs.declared.Pair.{Pair}
use Rattle.slices.specs.Pairs.{at}
use Rattle.cell.specs.Volume.{line_kind, first_pair, rows, columns, pair_place, volume_length}
use Rattle.cell.specs.Consistency.{line_agrees, point_agrees, row_ends}
pub use Rattle.cell.specs.Consistency.{image_agrees, point_image_agrees}
use Rattle.cell.specs.declared.operations.Index.{Index}
use Rattle.cell.specs.declared.operations.UnitCell.{UnitCell}
use Rattle.cell.specs.Operations.{cell_group, cell_halves, Sizes}

-- a volume as long as its cell asks for
pub record IsVolume (c : UnitCell) (v : List ℕ) : Type 0 where
  pub sizes : Sizes c
  pub long : length v ≡ volume_length (cell_group c) (cell_halves c)

-- the pair w of (h, k) lies inside the list
pub record PairInside (c : UnitCell) (v : List ℕ) (w h k : ℕ) : Type 0 where
  pub sizes : Sizes c
  pub layer : w ≤ 2880
  pub row : h ≤ 2880
  pub column : k ≤ 2880
  pub inside : 2 * pair_place (cell_group c) (cell_halves c) w h k + 1 < length v

-- an index whose factor has a place of its own
pub record IsStored (c : UnitCell) (j : Index) : Type 0 where
  pub h : j.h < c.n1
  pub k : j.k ≤ c.n2 / 2
  pub l : j.l < span (cell_group c) (c.n3 / 2)

-- the last operation of P2₁2₁2₁ with Friedel's rule: F(-h, k, l) = (-1)^(h + k) conj F(h, k, l)
abbrev pub mirrored : Sym
mirrored = sym true true false false true true false

abbrev pub same_pair : Pair → Pair → Bool
same_pair x y = eqb x.re y.re && eqb x.im y.im

abbrev pub is_zero : Pair → Bool
is_zero x = eqb x.re 0 && eqb x.im 0

module _ (g : Group) (a : J) where
  -- the stored factors of a row, and all of them, agree with their images
  abbrev pub line_row_agrees : (m : ℕ) → List ℕ → (l h : ℕ) → Bool
  line_row_agrees m v l h = below (columns g a) (λ k. line_agrees g a m v (h, k, l))

  -- the two ends of a row
  abbrev pub row_ends_agree : (m : ℕ) → List ℕ → (l h : ℕ) → Bool
  row_ends_agree m v l h = line_agrees g a m v (h, 0, l) && line_agrees g a m v (h, a.1, l)

  abbrev pub lines_agree : (m : ℕ) → List ℕ → Bool
  lines_agree m v = every_place (rows g a) (columns g a) (span g a.2) (line_agrees g a m v)

  -- the pairs 0 and A of the line (h, k) are zero; asked only of a line that leaves them out
  abbrev pub empty_ends : List ℕ → (h k : ℕ) → Bool
  empty_ends v h k = is_zero (at v (pair_place g a 0 h k)) && is_zero (at v (pair_place g a a.2 h k))

  abbrev pub empty_if_left_out : List ℕ → (h k : ℕ) → Bool
  empty_if_left_out v h k = imply (ltb 0 (first_pair (line_kind g h))) (empty_ends v h k)

  abbrev pub left_out_empty : List ℕ → Bool
  left_out_empty v = below (rows g a) (λ h. below (columns g a) (λ k. empty_if_left_out v h k))

  -- a row of a map: its points, then its two zeros
  abbrev pub points_agree : List ℕ → (z x : ℕ) → Bool
  points_agree v z x = below (2 * a.1) (λ y. point_agrees g a v (x, y, z))

  abbrev pub row_agrees : List ℕ → (z x : ℕ) → Bool
  row_agrees v z x = points_agree v z x && row_ends g a v z x

-- whatever the volume holds, no factor between the ends of k in a row at l has an image to be tried, and no point of
-- the plane z has one
abbrev pub InnerAgree : UnitCell → ℕ → Type 0
InnerAgree c l = (m : ℕ) (v : List ℕ) (h k : ℕ) →
    0 < k → k < c.n2 / 2 →
    line_agrees (cell_group c) (cell_halves c) m v (h, k, l) ≡ true

abbrev pub PlaneAgrees : UnitCell → ℕ → Type 0
PlaneAgrees c z = (v : List ℕ) (x y : ℕ) → point_agrees (cell_group c) (cell_halves c) v (x, y, z) ≡ true
