-- The layout of a combined map: what stands at the place of a point and at a row's end, and that a list of the volume's length is known by these.
use mathlib.Core.Path.{◌≡◌, sym, ◌∙◌, ap, subst}
use mathlib.Core.Logic.{⊎_elim}
use mathlib.Core.Bool.{cond}
use mathlib.Core.List.{List}
use Prim.Native.Nat.{ℕ, ◌+◌, ◌*◌, ◌/◌, ◌%◌, ◌<◌, ◌≤◌}
use native.Mathlib.Omega.{arith}
use lib.Dec.{ltb}
use lib.ListN.{length, get_or}
use lib.IntN.{ℤ, pos}
use borrow.Author.Tests.{lt-ltb, le-ltb}
use Rattle.algebra.specs.cells.Cell.{J, Inside, Group, Cell, point_image, point_operation}
use Rattle.algebra.proofs.cells.CellSym.{point_inside}
use Rattle.algebra.proofs.cells.CellGroup.{point_operation_in, point_operation_stored}
use Rattle.slices.proofs.Pairs.{lt_or_ge}
use Rattle.slices.proofs.Rows.{row_col, row_split, block_end}
use Rattle.cell.specs.Volume.{layers, rows, columns, volume_length, map_place}
use Rattle.cell.proofs.Maps.{own_plane}
use Rattle.combined.specs.CombinedMap.{count_of, number_at, pack_signed, Packs, PackedExactly, Symmetric}
use Rattle.combined.proofs.Tables.{length_tabulate, get_d_tabulate, is_tabulate}

module _ (g : Group) (a : J) where
  -- ---- places

  pub inside : {x y z : ℕ} → x < rows g a → y < 2 * columns g a → z < layers g a → map_place g a (x, y, z) < volume_length g a
  inside {x} {y} {z} lx ly lz = subst (λ (n : ℕ). map_place g a (x, y, z) < n) (widened (layers g a * rows g a) (columns g a)) (block_end lz lx ly)
    where
      widened : (r k : ℕ) → r * (2 * k) ≡ 2 * (r * k)
      widened r k = omega arith

  -- every place is one of a row
  pub by_map_place : (P : ℕ → Type 0) → ((x y z : ℕ) → x < rows g a → y < 2 * columns g a → z < layers g a → P (map_place g a (x, y, z))) → (n : ℕ) → n < volume_length g a → P n
  by_map_place P f n l =
      let outer = row_split (layers g a * rows g a) {m = 2 * columns g a} {p = n} (subst (λ (k : ℕ). n < k) (narrowed (layers g a * rows g a) (columns g a)) l) in
      let inner = row_split (layers g a) outer.0 in
      let row = n / (2 * columns g a) in
      subst P (ap (λ q. q * (2 * columns g a) + n % (2 * columns g a)) inner.2 ∙ outer.2) (f (row % rows g a) (n % (2 * columns g a)) (row / rows g a) inner.1 outer.1 inner.0)
    where
      narrowed : (r k : ℕ) → 2 * (r * k) ≡ r * (2 * k)
      narrowed r k = omega arith

  -- a place tells its point
  number_is : (M : Cell ℤ) (x y z : ℕ) → x < rows g a → y < 2 * columns g a → number_at g a M (map_place g a (x, y, z)) ≡ cond (ltb y (2 * a.1)) (M x y z) (pos 0)
  number_is M x y z lx ly =
      let outer = row_col (z * rows g a + x) ly in
      let inner = row_col z lx in
      λ i. cond (ltb (outer.1 i) (2 * a.1)) (M ((ap (λ q. q % rows g a) outer.0 ∙ inner.1) i) (outer.1 i) ((ap (λ q. q / rows g a) outer.0 ∙ inner.0) i)) (pos 0)

  number_point : (M : Cell ℤ) (x y z : ℕ) → x < rows g a → y < 2 * a.1 → number_at g a M (map_place g a (x, y, z)) ≡ M x y z
  number_point M x y z lx ly = number_is M x y z lx (omega arith) ∙ ap (λ b. cond b (M x y z) (pos 0)) (lt-ltb y (2 * a.1) ly)

  number_end : (M : Cell ℤ) (x y z : ℕ) → x < rows g a → 2 * a.1 ≤ y → y < 2 * columns g a → number_at g a M (map_place g a (x, y, z)) ≡ pos 0
  number_end M x y z lx ly wide = number_is M x y z lx wide ∙ ap (λ b. cond b (M x y z) (pos 0)) (le-ltb y (2 * a.1) ly)

  -- a point of a stored plane is counted where it stands
  pub count_stored : (v : List ℤ) (x y z : ℕ) → z < layers g a → count_of g a v (x, y, z) ≡ get_or v (map_place g a (x, y, z)) (pos 0)
  count_stored v x y z l = ap (λ q. get_or v (map_place g a q) (pos 0)) (own_plane g a (x, y, z) l)

  -- ---- the packed cell

  module _ (M : Cell ℤ) where
    at_place : (x y z : ℕ) → x < rows g a → y < 2 * columns g a → z < layers g a → get_or (pack_signed g a M) (map_place g a (x, y, z)) (pos 0) ≡ number_at g a M (map_place g a (x, y, z))
    unfolding pack_signed
    at_place x y z lx wide lz = get_d_tabulate (volume_length g a) (number_at g a M) (map_place g a (x, y, z)) (inside lx wide lz)

    at_end : (x y z : ℕ) → x < rows g a → 2 * a.1 ≤ y → y < 2 * columns g a → z < layers g a → get_or (pack_signed g a M) (map_place g a (x, y, z)) (pos 0) ≡ pos 0
    at_end x y z lx ly wide lz = at_place x y z lx wide lz ∙ number_end M x y z lx ly wide

    pub packs : Packs g a M (pack_signed g a M)
    packs = record {
      stored = λ x y z lx ly lz. count_stored (pack_signed g a M) x y z lz ∙ at_place x y z lx (omega arith) lz ∙ number_point M x y z lx ly;
      ends = λ x z lx lz. (at_end x (2 * a.1) z lx (omega arith) (omega arith) lz, at_end x (2 * a.1 + 1) z lx (omega arith) (omega arith) lz);
    }

    pub length_packed : length (pack_signed g a M) ≡ volume_length g a
    unfolding pack_signed
    length_packed = length_tabulate (volume_length g a) (number_at g a M)

    -- a list with these numbers
    pub is_packed : (v : List ℤ) → length v ≡ volume_length g a → Packs g a M v → v ≡ pack_signed g a M
    unfolding pack_signed
    is_packed v e p = is_tabulate (volume_length g a) (number_at g a M) v e (by_map_place (λ n. get_or v n (pos 0) ≡ number_at g a M n) each)
      where
        at_row_end : (x y z : ℕ) → x < rows g a → 2 * a.1 ≤ y → y < 2 * columns g a → z < layers g a → get_or v (map_place g a (x, y, z)) (pos 0) ≡ pos 0
        at_row_end x y z lx ly wide lz = ⊎_elim
            (λ (l : y < 2 * a.1 + 1). subst (λ (k : ℕ). get_or v (map_place g a (x, k, z)) (pos 0) ≡ pos 0) {x = 2 * a.1} {y = y} (omega arith) (p.ends x z lx lz).0)
            (λ (l : 2 * a.1 + 1 ≤ y). subst (λ (k : ℕ). get_or v (map_place g a (x, k, z)) (pos 0) ≡ pos 0) {x = 2 * a.1 + 1} {y = y} (omega arith) (p.ends x z lx lz).1)
            (lt_or_ge y (2 * a.1 + 1))

        each : (x y z : ℕ) → x < rows g a → y < 2 * columns g a → z < layers g a → get_or v (map_place g a (x, y, z)) (pos 0) ≡ number_at g a M (map_place g a (x, y, z))
        each x y z lx wide lz = ⊎_elim
            (λ (l : y < 2 * a.1). sym (count_stored v x y z lz) ∙ p.stored x y z lx l lz ∙ sym (number_point M x y z lx l))
            (λ (l : 2 * a.1 ≤ y). at_row_end x y z lx l wide lz ∙ sym (number_end M x y z lx l wide))
            (lt_or_ge y (2 * a.1))

-- of a symmetric cell every point is read off, stored or not: its image has its number
pub packed_point : (g : Group) (a : J) (M : Cell ℤ) → Symmetric g a M → (x : J) → Inside a x → count_of g a (pack_signed g a M) x ≡ M x.0 x.1 x.2
packed_point g a M obeys x h =
    let s = point_operation g a x in
    let q = point_image a s x in
    let inside = point_inside a s x h in
    let stored = point_operation_stored g a x h in
    sym (count_stored g a (pack_signed g a M) q.0 q.1 q.2 stored)
    ∙ (packs g a M).stored q.0 q.1 q.2 inside.0 inside.1 stored
    ∙ obeys s (point_operation_in g a x) x h

pub packed_exactly : PackedExactly
packed_exactly g a M v = (
  λ e. (ap length e ∙ length_packed g a M, subst (Packs g a M) (sym e) (packs g a M)),
  λ p. is_packed g a M v p.0 p.1,
)
