-- The least and the greatest of many numbers, found in parts; of a cell they are those of its stored planes.
use mathlib.Core.Path.{◌≡◌, refl, sym, ◌∙◌, ap, ap₂, subst}
use mathlib.Core.Bool.{Bool, true, false, ◌&&◌, cond}
use mathlib.Core.List.{List}
use Prim.Native.Nat.{ℕ, zero, suc, ◌+◌, ◌*◌, ◌/◌, ◌<◌, ◌≤◌}
use native.Mathlib.Nat.{not-suc-le-zero, le_antisymm}
use mathlib.Core.Logic.{⊎_elim}
use native.Mathlib.Numerals.{add-one}
use native.Mathlib.Omega.{arith}
use lib.Dec.{T, leb, leb→le, le→leb}
use lib.ListN.{length, get_or}
use lib.IntN.{ℤ, pos, nat_abs}
use lib.Signed.{lt_z}
use mir.Syntax.{w64}
use mir.Val.{to_z, of_z}
use Rattle.algebra.specs.cells.Cell.{J, Inside, Group, P1, P2₁, Pm, Pa, P2₁2₁2₁, planes, point_image, point_operation}
use Rattle.algebra.proofs.ring.Bool.{and_i, and_l, and_r, same_test}
use Rattle.algebra.proofs.cells.CellSym.{point_inside}
use Rattle.algebra.proofs.cells.CellGroup.{point_operation_stored}
use Rattle.algebra.proofs.cells.CellTests.{every_place_at, every_place_by}
use Rattle.cell.specs.declared.operations.UnitCell.{UnitCell}
use Rattle.cell.specs.Operations.{cell_group, cell_halves, Sizes, Length}
use Rattle.cell.specs.Volume.{layers, map_place, pair_place, volume_length}
use Rattle.cell.proofs.Maps.{layers_fit}
use Rattle.slices.proofs.Pairs.{lt_or_ge}
use Rattle.combined.proofs.PackedMaps.{count_stored, inside}
use Rattle.mrc.specs.Floats.{exact_limit}
use Rattle.mrc.specs.Ranges.{lesser, greater, among, Spans, density, of_cell, of_row, of_plane, of_stored, Attained, CellRange, CellValues}
use Rattle.mrc.specs.Mrc.{all_exact, Writable}
use Rattle.mrc.specs.declared.ranges.DensityRange.{DensityRange}
use Rattle.mrc.proofs.Order.{Chooses, lesser_chooses, greater_chooses, between}

-- ---- among

module _ {pick : ℤ → ℤ → ℤ} {Before : ℤ → ℤ → Type 0} (𝓒 : Chooses pick Before) where
  -- what is chosen stands before each, and is one of them
  pub among_before : (n : ℕ) (f : ℕ → ℤ) (k : ℕ) → k < n → Before (among pick n f) (f k)
  unfolding among
  among_before zero f k l = absurd (not-suc-le-zero l)
  among_before (suc n) f k l = ⊎_elim
      (λ (m : k < n). 𝓒.through (𝓒.left (among pick n f) (f n)) (among_before n f k m))
      (λ (m : n ≤ k). subst (λ (j : ℕ). Before (pick (among pick n f) (f n)) (f j)) {x = n} {y = k} (omega arith) (𝓒.right (among pick n f) (f n)))
      (lt_or_ge k n)

  pub among_is : (P : ℤ → Type 0) (n : ℕ) (f : ℕ → ℤ) → 0 < n → ((k : ℕ) → k < n → P (f k)) → P (among pick n f)
  unfolding among
  among_is P zero f l h = absurd (not-suc-le-zero l)
  among_is P (suc zero) f l h = 𝓒.either P (f 0) (f 0) (h 0 (omega arith)) (h 0 (omega arith))
  among_is P (suc (suc n)) f l h = 𝓒.either P (among pick (suc n) f) (f (suc n)) (among_is P (suc n) f (omega arith) (λ k m. h k (omega arith))) (h (suc n) (omega arith))

pub among_cong : (pick : ℤ → ℤ → ℤ) (n : ℕ) (f g : ℕ → ℤ) → ((k : ℕ) → f k ≡ g k) → among pick n f ≡ among pick n g
unfolding among
among_cong pick zero f g h = h 0
among_cong pick (suc n) f g h = ap₂ pick (among_cong pick n f g h) (h n)

-- ---- in a loop: the first number, then one more

cond_same : (b : Bool) (x : ℤ) → x ≡ cond b x x
cond_same true x = refl
cond_same false x = refl

pub spans_first : {r : DensityRange} (f : (ℤ → ℤ → ℤ) → ℕ → ℤ) → Spans r (λ pick. f pick 0) → Spans r (λ pick. among pick 1 (f pick))
unfolding among
spans_first {r} f h = record {
  low = h.low ∙ cond_same (lt_z (f lesser 0) (f lesser 0)) (f lesser 0);
  high = h.high ∙ cond_same (lt_z (f greater 0) (f greater 0)) (f greater 0);
}

pub spans_next : {r s t : DensityRange} (n : ℕ) (f : (ℤ → ℤ → ℤ) → ℕ → ℤ) → Spans r (λ pick. among pick n (f pick)) → Spans s (λ pick. f pick n)
    → (t.least ≡ lesser r.least s.least) × (t.greatest ≡ greater r.greatest s.greatest) → Spans t (λ pick. among pick (n + 1) (f pick))
unfolding among
spans_next n f h k e = rw add-one (record { low = e.0 ∙ ap₂ lesser h.low k.low; high = e.1 ∙ ap₂ greater h.high k.high })

pub spans_as : {r : DensityRange} (f g : (ℤ → ℤ → ℤ) → ℤ) → ((pick : ℤ → ℤ → ℤ) → f pick ≡ g pick) → Spans r f → Spans r g
spans_as f g e h = record { low = h.low ∙ e lesser; high = h.high ∙ e greater }

pub spans_single : {r : DensityRange} (v : List ℤ) (p q : ℕ) → p ≡ q → to_z w64 (of_z w64 (get_or v p (pos 0))) ≡ get_or v p (pos 0)
    → (r.least ≡ to_z w64 (of_z w64 (get_or v p (pos 0)))) × (r.greatest ≡ to_z w64 (of_z w64 (get_or v p (pos 0)))) → Spans r (λ pick. get_or v q (pos 0))
spans_single v p q e f h = let t = f ∙ ap (λ (j : ℕ). get_or v j (pos 0)) e in record { low = h.0 ∙ t; high = h.1 ∙ t }

pub spans_all : {r : DensityRange} {y n : ℕ} (f : (ℤ → ℤ → ℤ) → ℕ → ℤ) → y ≤ n → n ≤ y → Spans r (λ pick. among pick y (f pick)) → Spans r (λ pick. among pick n (f pick))
spans_all {r} f l m h = subst (λ (k : ℕ). Spans r (λ pick. among pick k (f pick))) (le_antisymm l m) h

-- ---- a cell

even_double : {n : ℕ} → Length n → 2 * (n / 2) ≡ n
even_double l = omega (arith, l.even)

planes_some : (g : Group) (c : ℕ) → 0 < c → 0 < planes g c
unfolding planes
planes_some P1 c l = omega arith
planes_some P2₁ c l = l
planes_some Pm c l = omega arith
planes_some Pa c l = omega arith
planes_some P2₁2₁2₁ c l = l

module _ (cell : UnitCell) (v : List ℤ) (sizes : Sizes cell) where
  abbrev g : Group
  g = cell_group cell

  abbrev a : J
  a = cell_halves cell

  -- the planes that are stored are planes of the cell, and there is one
  pub plane_inside : (z : ℕ) → z < layers g a → z < cell.n3
  plane_inside z l = subst (λ (n : ℕ). z < n) (even_double sizes.third) (layers_fit g a (omega (arith, sizes.third.low)) z l)

  pub inside_of : (x y z : ℕ) → x < cell.n1 → y < cell.n2 → z < cell.n3 → Inside a (x, y, z)
  inside_of x y z lx ly lz = (omega (arith, even_double sizes.first), omega (arith, even_double sizes.second), omega (arith, even_double sizes.third))

  -- a point is read where a stored one stands
  pub read_stored : (P : ℤ → Type 0) → ((x y z : ℕ) → x < cell.n1 → y < cell.n2 → z < layers g a → P (density cell v (x, y, z)))
      → (x y z : ℕ) → x < cell.n1 → y < cell.n2 → z < cell.n3 → P (density cell v (x, y, z))
  read_stored P f x y z lx ly lz =
      let p : J = (x, y, z) in
      let n : Inside a p = inside_of x y z lx ly lz in
      let q : J = point_image a (point_operation g a p) p in
      let m : Inside a q = point_inside a (point_operation g a p) p n in
      let s : q.2 < layers g a = point_operation_stored g a p n in
      subst P (count_stored g a v q.0 q.1 q.2 s) (f q.0 q.1 q.2 (omega (arith, m.0, even_double sizes.first)) (omega (arith, m.1, even_double sizes.second)) s)

  pub some_plane : 0 < layers g a
  some_plane = planes_some g a.2 (omega (arith, sizes.third.low))

  module _ {pick : ℤ → ℤ → ℤ} {Before : ℤ → ℤ → Type 0} (𝓒 : Chooses pick Before) where
    pub cell_before : (x y z : ℕ) → x < cell.n1 → y < cell.n2 → z < cell.n3 → Before (of_cell cell v pick) (density cell v (x, y, z))
    unfolding of_cell
    cell_before x y z lx ly lz =
        𝓒.through (among_before 𝓒 cell.n3 (λ z. among pick cell.n2 (λ y. among pick cell.n1 (λ x. density cell v (x, y, z)))) z lz)
        (𝓒.through (among_before 𝓒 cell.n2 (λ y. among pick cell.n1 (λ x. density cell v (x, y, z))) y ly)
        (among_before 𝓒 cell.n1 (λ x. density cell v (x, y, z)) x lx))

    pub cell_is : (P : ℤ → Type 0) → ((x y z : ℕ) → x < cell.n1 → y < cell.n2 → z < cell.n3 → P (density cell v (x, y, z))) → P (of_cell cell v pick)
    unfolding of_cell
    cell_is P f =
        among_is 𝓒 P cell.n3 _ (omega (arith, sizes.third.low)) (λ z lz.
        among_is 𝓒 P cell.n2 _ (omega (arith, sizes.second.low)) (λ y ly.
        among_is 𝓒 P cell.n1 _ (omega (arith, sizes.first.low)) (λ x lx. f x y z lx ly lz)))

    stored_before : (x y z : ℕ) → x < cell.n1 → y < cell.n2 → z < layers g a → Before (of_stored cell v pick) (density cell v (x, y, z))
    unfolding of_stored
    stored_before x y z lx ly lz =
        𝓒.through (among_before 𝓒 (layers g a) (λ z. of_plane cell v z pick) z lz)
        (𝓒.through (among_before 𝓒 cell.n1 (λ x. of_row cell v z x pick) x lx)
        (among_before 𝓒 cell.n2 (λ y. density cell v (x, y, z)) y ly))

    stored_is : (P : ℤ → Type 0) → ((x y z : ℕ) → x < cell.n1 → y < cell.n2 → z < layers g a → P (density cell v (x, y, z))) → P (of_stored cell v pick)
    unfolding of_stored
    stored_is P f =
        among_is 𝓒 P (layers g a) _ some_plane (λ z lz.
        among_is 𝓒 P cell.n1 _ (omega (arith, sizes.first.low)) (λ x lx.
        among_is 𝓒 P cell.n2 _ (omega (arith, sizes.second.low)) (λ y ly. f x y z lx ly lz)))

    pub stored_same : of_stored cell v pick ≡ of_cell cell v pick
    stored_same = 𝓒.same
        (cell_is (λ m. Before (of_stored cell v pick) m) (read_stored (λ m. Before (of_stored cell v pick) m) stored_before))
        (stored_is (λ m. Before (of_cell cell v pick) m) (λ x y z lx ly lz. cell_before x y z lx ly (plane_inside z lz)))

    pub cell_attained : Attained cell v (of_cell cell v pick)
    cell_attained = cell_is (Attained cell v) (λ x y z lx ly lz. record { x = x; y = y; z = z; x_inside = lx; y_inside = ly; z_inside = lz; there = refl })

  pub cell_range : CellRange cell v
  cell_range = record {
    least_at = cell_attained lesser_chooses;
    greatest_at = cell_attained greater_chooses;
    none_less = cell_before lesser_chooses;
    none_greater = cell_before greater_chooses;
    least_stored = stored_same lesser_chooses;
    greatest_stored = stored_same greater_chooses;
  }

  -- ---- the ends decide for all densities whether floats hold them

  exact_at : (m : ℤ) → Attained cell v m → T (all_exact cell v) → nat_abs m ≤ exact_limit
  unfolding all_exact
  exact_at m p t = subst (λ (n : ℤ). nat_abs n ≤ exact_limit) p.there (leb→le _ _ (every_place_at cell.n1 cell.n2 cell.n3 _ (p.x, p.y, p.z) t p.x_inside p.y_inside p.z_inside))

  pub ends_exact : T (all_exact cell v) → (nat_abs (of_cell cell v lesser) ≤ exact_limit) × (nat_abs (of_cell cell v greater) ≤ exact_limit)
  ends_exact t = (exact_at (of_cell cell v lesser) cell_range.least_at t, exact_at (of_cell cell v greater) cell_range.greatest_at t)

  pub exact_by_ends : (leb (nat_abs (of_cell cell v lesser)) exact_limit && leb (nat_abs (of_cell cell v greater)) exact_limit) ≡ all_exact cell v
  unfolding all_exact
  exact_by_ends = same_test _ _
      (λ t. every_place_by cell.n1 cell.n2 cell.n3 _ (λ x lx ly lz. le→leb _ _ (between exact_limit (of_cell cell v lesser) (density cell v x) (of_cell cell v greater)
      (cell_range.none_less x.0 x.1 x.2 lx ly lz) (cell_range.none_greater x.0 x.1 x.2 lx ly lz)
      (leb→le _ _ (and_l (leb (nat_abs (of_cell cell v lesser)) exact_limit) _ t)) (leb→le _ _ (and_r (leb (nat_abs (of_cell cell v lesser)) exact_limit) _ t)))))
      (λ t. and_i (leb (nat_abs (of_cell cell v lesser)) exact_limit) _ (le→leb _ _ (ends_exact t).0) (le→leb _ _ (ends_exact t).1))

  -- one density
  pub exact_density : T (all_exact cell v) → (x y z : ℕ) → x < cell.n1 → y < cell.n2 → z < cell.n3 → nat_abs (density cell v (x, y, z)) ≤ exact_limit
  exact_density t x y z lx ly lz = exact_at (density cell v (x, y, z)) (record { x = x; y = y; z = z; x_inside = lx; y_inside = ly; z_inside = lz; there = refl }) t

  -- ---- a stored row

  row_place : (x y z : ℕ) → 2 * pair_place g a z x 0 + y ≡ map_place g a (x, y, z)
  row_place x y z = again (z * (2 * a.0) + x) (suc a.1) y
    where
      again : (r c y : ℕ) → 2 * (r * c + 0) + y ≡ r * (2 * c) + y
      again r c y = omega arith

  pub row_densities : (pick : ℤ → ℤ → ℤ) (x z start : ℕ) → z < layers g a → start ≡ 2 * pair_place g a z x 0 → among pick cell.n2 (λ y. get_or v (start + y) (pos 0)) ≡ of_row cell v z x pick
  row_densities pick x z start lz e = among_cong pick cell.n2 _ _ (λ y. ap (λ (q : ℕ). get_or v q (pos 0)) (ap (λ (q : ℕ). q + y) e ∙ row_place x y z) ∙ sym (count_stored g a v x y z lz))

  pub row_inside : (x z start : ℕ) → x < cell.n1 → z < layers g a → start ≡ 2 * pair_place g a z x 0 → length v ≡ volume_length g a → start + cell.n2 ≤ length v
  row_inside x z start lx lz e len =
      let last = inside g a {x = x} {y = 2 * a.1 + 1} {z = z} (omega (arith, even_double sizes.first)) (omega arith) lz in
      omega (arith, e, len, even_double sizes.second, subst (λ (n : ℕ). n < volume_length g a) (sym (row_place x (2 * a.1 + 1) z)) last)

-- of a map that is written
pub cell_within : (cell : UnitCell) (v : List ℤ) → Writable cell v → (nat_abs (of_cell cell v lesser) ≤ exact_limit) × (nat_abs (of_cell cell v greater) ≤ exact_limit)
cell_within cell v w = ends_exact cell v w.sizes (subst T (sym w.exact) tt)

pub cell_values : CellValues
cell_values cell v sizes = cell_range cell v sizes
