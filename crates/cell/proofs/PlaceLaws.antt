-- The places that the code computes: the pair of an index lies in the volume, the numbers of a factor by kind, the plane of a point.
use mathlib.Core.Path.{◌≡◌, refl, sym, ◌∙◌, ap, ap₂, subst}
use mathlib.Core.Logic.{◌⊎◌, inl, inr, ⊎_elim}
use mathlib.Core.Bool.{Bool, true, false, ◌||◌, not, cond}
use mathlib.Core.List.{List, [], ◌∷◌}
use Prim.Native.Nat.{ℕ, zero, suc, ◌+◌, ◌*◌, ◌-◌, ◌/◌, ◌%◌, ◌<◌, ◌≤◌, min}
use native.Mathlib.Nat.{mul-le-mul}
use native.Mathlib.Omega.{arith}
use lib.ListN.{get_or}
use lib.Dec.{eqb, leb}
use borrow.Author.Tests.{eq-eqb, ne_eqb, eqb-true, eqb-false, lt-ltb, le-ltb}
use Rattle.algebra.specs.lines.Kinds.{Kind.plain, Kind.alternating, Kind.symmetric, Kind.antisymmetric}
use Rattle.algebra.specs.cells.Cell.{J, Inside, Sym, Group, P1, P2₁, Pm, Pa, P2₁2₁2₁, one, ops, neg_i, point_image, planes, span, point_operation, plane_sym}
use Rattle.algebra.specs.cells.CellPack.{even}
use Rattle.algebra.proofs.ring.Laws.{along}
use Rattle.algebra.proofs.cells.CellSym.{point_one}
use Rattle.algebra.proofs.cells.CellGroup.{point_operation_stored}
use Rattle.cell.specs.Volume.{group_of, line_kind, layers, rows, columns, volume_length, pair_place, map_place, pair_numbers, line_numbers, numbers_read, density_place}
use Rattle.cell.specs.declared.operations.Index.{Index}
use Rattle.cell.specs.declared.operations.Point.{Point}
use Rattle.cell.specs.declared.places.Run.{Run}
use Rattle.cell.specs.declared.operations.UnitCell.{UnitCell}
use Rattle.cell.specs.Operations.{cell_group, cell_halves, halves_of, triple_of, point_of, Length, Sizes, Within, PointWithin}
use Rattle.cell.proofs.VolumeLayout.{place_inside}
use Rattle.cell.proofs.LineKinds.{plain_group, by_alternating, by_other}
use Rattle.cell.specs.Places.{consecutive, IsRun, stored_column}

-- the groups that store half of each line
pub by_halved : (P : Group → Type 0) → P P2₁ → P Pm → P Pa → P P2₁2₁2₁ → (n : ℕ) → n < 5 → (n ≡ 0 → ⊥) → P (group_of n)
by_halved P b c d e zero l z = absurd (z refl)
by_halved P b c d e (suc zero) l z = b
by_halved P b c d e (suc (suc zero)) l z = c
by_halved P b c d e (suc (suc (suc zero))) l z = d
by_halved P b c d e (suc (suc (suc (suc zero)))) l z = e
by_halved P b c d e (suc (suc (suc (suc (suc n))))) l z = absurd (omega arith)

or_left : (a b : Bool) → (a || b) ≡ false → a ≡ false
or_left true b e = e
or_left false b e = refl

or_right : (a b : Bool) → (a || b) ≡ false → b ≡ false
or_right true b e = cc
or_right false b e = e

either : (a b : Bool) → (a || b) ≡ true → (a ≡ true) ⊎ (b ≡ true)
either true b e = inl refl
either false b e = inr e

-- an index or a point below the lengths is one of the theory's
pub inside_of : {cell : UnitCell} {j : Index} → Sizes cell → Within cell j → Inside (cell_halves cell) (triple_of j)
inside_of s w = (omega arith, omega arith, omega arith)

pub point_inside : {cell : UnitCell} {p : Point} → Sizes cell → PointWithin cell p → Inside (cell_halves cell) (point_of p)
point_inside s w = (omega arith, omega arith, omega arith)

-- ---- parities and ends

even_double : (t : ℕ) → even (2 * t) ≡ true
unfolding even
even_double zero = refl
even_double (suc t) = along even (2 * suc t) (suc (suc (2 * t))) (omega arith) ∙ ap (λ b. not (not b)) (even_double t)

pub even_is : (h : ℕ) → h % 2 ≡ 0 → even h ≡ true
even_is h e = along even h (2 * (h / 2)) (omega arith) ∙ even_double (h / 2)

pub odd_is : (h : ℕ) → (h % 2 ≡ 0 → ⊥) → even h ≡ false
unfolding even
odd_is h e = along even h (suc (2 * (h / 2))) (omega arith) ∙ ap not (even_double (h / 2))

pub even_tested : (n : ℕ) → eqb (n % 2) 0 ≡ even n
even_tested n = go (eqb (n % 2) 0) refl
  where
    go : (b : Bool) → eqb (n % 2) 0 ≡ b → b ≡ even n
    go true e = sym (even_is n (eqb-true _ _ e))
    go false e = sym (odd_is n (eqb-false _ _ e))

pub at_end : (l c : ℕ) → (eqb l 0 || eqb l c) ≡ true → (l ≡ 0) ⊎ (l ≡ c)
at_end l c e = ⊎_elim (λ p. inl (eqb-true l 0 p)) (λ p. inr (eqb-true l c p)) (either (eqb l 0) (eqb l c) e)

pub not_end : (l c : ℕ) → (eqb l 0 || eqb l c) ≡ false → (l ≡ 0 → ⊥) × (l ≡ c → ⊥)
not_end l c e = (eqb-false l 0 (or_left (eqb l 0) (eqb l c) e), eqb-false l c (or_right (eqb l 0) (eqb l c) e))

-- ---- the numbers of a factor

module _ (g : Group) (a : J) where
  pub pair_run : {w h k : ℕ} (r : Run) → w < layers g a → h < rows g a → k < columns g a → r.first ≡ 2 * pair_place g a w h k → r.count ≡ 2 → IsRun (volume_length g a) (pair_numbers g a w h k) r
  unfolding consecutive
  pair_run r lw lh lk e f = record { are = ap₂ consecutive e f; inside = omega (arith, place_inside g a lw lh lk) }

  pub number_run : {w h k : ℕ} (r : Run) (q : ℕ) → w < layers g a → h < rows g a → k < columns g a → q ≤ 2 * pair_place g a w h k + 1 → r.first ≡ q → r.count ≡ 1 → IsRun (volume_length g a) (q ∷ []) r
  unfolding consecutive
  number_run r q lw lh lk s e f = record { are = ap₂ consecutive e f; inside = omega (arith, place_inside g a lw lh lk) }

  pub empty_run : (r : Run) → r.first ≡ 0 → r.count ≡ 0 → IsRun (volume_length g a) [] r
  unfolding consecutive
  empty_run r e f = record { are = ap₂ consecutive e f; inside = omega arith }

-- in the middle of a line of which half is stored: the pair of l or of -l
abbrev Middle : J → (h k l : ℕ) → Group → Type 0
Middle a h k l g = (line_numbers g a (line_kind g h) h k l ≡ pair_numbers g a (min l (2 * a.2 - l)) h k) × (min l (2 * a.2 - l) < layers g a)

pub middle_numbers : (a : J) (h k l : ℕ) → (l ≡ 0 → ⊥) × (l ≡ a.2 → ⊥) → l < 2 * a.2 → (n : ℕ) → n < 5 → (n ≡ 0 → ⊥) → Middle a h k l (group_of n)
unfolding planes
middle_numbers a h k l z b = by_halved (Middle a h k l) (rw (ne_eqb l 0 z.0, ne_eqb l a.2 z.1) refl, omega arith) (refl, omega arith) (glide (even h), omega arith) (rw (ne_eqb l 0 z.0, ne_eqb l a.2 z.1) refl, omega arith)
  where
    glide : (e : Bool) → line_numbers Pa a (cond e symmetric antisymmetric) h k l ≡ pair_numbers Pa a (min l (2 * a.2 - l)) h k
    glide true = refl
    glide false = rw (ne_eqb l 0 z.0, ne_eqb l a.2 z.1) refl

-- at the ends of a symmetric line: the pair of l itself
fold_end : (c l : ℕ) → (l ≡ 0) ⊎ (l ≡ c) → (min l (2 * c - l) ≡ l) × (l < suc c)
fold_end c l e = ⊎_elim (λ z. (omega arith, omega arith)) (λ z. (omega arith, omega arith)) e

module _ {cell : UnitCell} (s : Sizes cell) (j : Index) (i : Within cell j) (b : j.k ≤ cell.n2 / 2) (r : Run) where
  abbrev a : J
  a = cell_halves cell

  abbrev g : Group
  g = cell_group cell

  abbrev Found : Group → Type 0
  Found g = IsRun (volume_length g a) (line_numbers g a (line_kind g j.h) j.h j.k j.l) r

  in_rows : j.h < rows P1 a
  in_rows = omega arith

  in_columns : j.k < columns P1 a
  in_columns = omega arith

  -- the code has found the pair w
  pub pair_found : (w : ℕ) → r.first ≡ 2 * pair_place P1 a w j.h j.k → r.count ≡ 2 → (g : Group) → w < layers g a
      → line_numbers g a (line_kind g j.h) j.h j.k j.l ≡ pair_numbers P1 a w j.h j.k → Found g
  pair_found w e f g l q = subst (λ p. IsRun (volume_length g a) p r) (sym q) (pair_run g a r l in_rows in_columns e f)

  pub plain_found : line_kind g j.h ≡ plain → r.first ≡ 2 * pair_place P1 a j.l j.h j.k → r.count ≡ 2 → Found g
  unfolding planes
  plain_found z e f = plain_group Found (pair_found j.l e f P1 (omega arith) refl) g j.h z

  pub middle_found : (line_kind g j.h ≡ plain → ⊥) → (eqb j.l 0 || eqb j.l (cell.n3 / 2)) ≡ false → {w : ℕ} → w ≡ min j.l (2 * (cell.n3 / 2) - j.l)
      → r.first ≡ 2 * pair_place P1 a w j.h j.k → r.count ≡ 2 → Found g
  middle_found z t u e f =
      let q = middle_numbers a j.h j.k j.l (not_end j.l (cell.n3 / 2) t) (omega arith) cell.group s.known (λ n. z (ap (λ n. line_kind (group_of n) j.h) n)) in
      pair_found _ (e ∙ ap (λ w. 2 * pair_place P1 a w j.h j.k) u) f g q.1 q.0

  -- the ends of an alternating line
  pub first_found : line_kind g j.h ≡ alternating → j.l ≡ 0 → {q : ℕ} → q ≡ pair_place P1 a 0 j.h j.k → r.first ≡ 2 * q → r.count ≡ 1 → Found g
  unfolding planes
  first_found z l u e f = by_alternating Found
      (rw (eq-eqb j.l 0 l) (number_run P2₁ a {w = 0} r _ (omega arith) in_rows in_columns (omega arith) (e ∙ ap (λ q. 2 * q) u) f))
      (rw (eq-eqb j.l 0 l) (number_run P2₁2₁2₁ a {w = 0} r _ (omega arith) in_rows in_columns (omega arith) (e ∙ ap (λ q. 2 * q) u) f))
      g j.h z

  module _ (end : (eqb j.l 0 || eqb j.l (cell.n3 / 2)) ≡ true) where
    pub second_found : line_kind g j.h ≡ alternating → (j.l ≡ 0 → ⊥) → {q : ℕ} → q ≡ pair_place P1 a 0 j.h j.k → r.first ≡ 2 * q + 1 → r.count ≡ 1 → Found g
    unfolding planes
    second_found z l u e f =
        let q : j.l ≡ cell.n3 / 2 = ⊎_elim (λ p. absurd (l p)) (λ p. p) (at_end j.l (cell.n3 / 2) end) in
        by_alternating Found
        (rw (ne_eqb j.l 0 l, eq-eqb j.l (cell.n3 / 2) q) (number_run P2₁ a {w = 0} r _ (omega arith) in_rows in_columns (omega arith) (e ∙ ap (λ q. 2 * q + 1) u) f))
        (rw (ne_eqb j.l 0 l, eq-eqb j.l (cell.n3 / 2) q) (number_run P2₁2₁2₁ a {w = 0} r _ (omega arith) in_rows in_columns (omega arith) (e ∙ ap (λ q. 2 * q + 1) u) f))
        g j.h z

    -- those of an antisymmetric line, which are not read
    pub zero_found : line_kind g j.h ≡ antisymmetric → r.first ≡ 0 → r.count ≡ 0 → Found g
    zero_found z e f = rw (z, end) (empty_run g a r e f)

    -- and those of a symmetric line
    pub mirror_found : (line_kind g j.h ≡ plain → ⊥) → (line_kind g j.h ≡ alternating → ⊥) → (line_kind g j.h ≡ antisymmetric → ⊥) → r.first ≡ 2 * pair_place P1 a j.l j.h j.k → r.count ≡ 2 → Found g
    unfolding planes
    mirror_found x y z e f = by_other (λ g. (line_kind g j.h ≡ plain → ⊥) → (line_kind g j.h ≡ antisymmetric → ⊥) → Found g)
        (λ x z. absurd (x refl))
        (λ x z. pair_found j.l e f Pm q.1 own)
        (λ x z. pair_found j.l e f Pa q.1 (glide (even j.h) z))
        g j.h y x z
      where
        q : (min j.l (2 * (cell.n3 / 2) - j.l) ≡ j.l) × (j.l < suc (cell.n3 / 2))
        q = fold_end (cell.n3 / 2) j.l (at_end j.l (cell.n3 / 2) end)

        own : pair_numbers Pm a (min j.l (2 * (cell.n3 / 2) - j.l)) j.h j.k ≡ pair_numbers Pm a j.l j.h j.k
        own = ap (λ w. pair_numbers Pm a w j.h j.k) q.0

        glide : (b : Bool) → (cond b symmetric antisymmetric ≡ antisymmetric → ⊥) → line_numbers Pa a (cond b symmetric antisymmetric) j.h j.k j.l ≡ pair_numbers Pa a j.l j.h j.k
        glide true z = own
        glide false z = absurd (z refl)

-- ---- products of lengths fit

pub place_small : {n1 n2 w h k : ℕ} → Length n1 → Length n2 → w ≤ 2880 → h ≤ 2880 → k ≤ 2880 → (w * n1 + h ≤ 8297280) × ((w * n1 + h) * (n2 / 2 + 1) + k ≤ 12000000000)
place_small {n1} {n2} {w} {h} a b lw lh lk =
    let row : w * n1 + h ≤ 8297280 = omega (arith, mul-le-mul lw a.high) in
    let half : n2 / 2 + 1 ≤ 1441 = omega arith in
    (row, omega (arith, mul-le-mul row half))

pub even_place : (n1 n2 w h k : ℕ) → Length n1 → (w * n1 + h) * (n2 / 2 + 1) + k ≡ pair_place P1 (halves_of n1 n2 0) w h k
even_place n1 n2 w h k even =
    let twice : n1 ≡ 2 * (n1 / 2) = omega arith in
    let next : n2 / 2 + 1 ≡ suc (n2 / 2) = omega arith in
    λ i. (w * twice i + h) * next i + k

-- ---- how many stored factors along l

pub half_span : (n c : ℕ) → n < 5 → (n ≡ 0 → ⊥) → c + 1 ≡ span (group_of n) c
unfolding span
half_span n c = by_halved (λ g. c + 1 ≡ span g c) (omega arith) (omega arith) (omega arith) (omega arith) n

-- P1 stores every plane
pub not_plain : (n c z : ℕ) → planes (group_of n) c ≤ z → z < 2 * c → n ≡ 0 → ⊥
unfolding planes
not_plain n c z l h e = let p : 2 * c ≤ z = subst (λ n. planes (group_of n) c ≤ z) e l in omega arith

-- the pair w of the line of j lies in the volume
pub pair_inside : {cell : UnitCell} → Sizes cell → (j : Index) → Within cell j → j.k ≤ cell.n2 / 2 → (w : ℕ) → w < layers (cell_group cell) (cell_halves cell)
    → 2 * pair_place P1 (cell_halves cell) w j.h j.k + 1 < volume_length (cell_group cell) (cell_halves cell)
pair_inside {cell} s j i b w l = omega (arith, place_inside (cell_group cell) (cell_halves cell) {w = w} {h = j.h} {k = j.k} l (omega arith) (omega arith))

-- pair 0 of an alternating line, and those between its ends
module _ {cell : UnitCell} (s : Sizes cell) (j : Index) (e : line_kind (cell_group cell) j.h ≡ alternating) (i : Within cell j) (b : j.k ≤ cell.n2 / 2) where
  pub first_inside : 2 * pair_place P1 (cell_halves cell) 0 j.h j.k + 1 < volume_length (cell_group cell) (cell_halves cell)
  unfolding planes
  first_inside = pair_inside s j i b 0 (by_alternating (λ g. 0 < layers g (cell_halves cell)) (omega arith) (omega arith) (cell_group cell) j.h e)

  pub middle_inside : j.l ≤ cell.n3 / 2 → (j.l ≡ cell.n3 / 2 → ⊥) → 2 * pair_place P1 (cell_halves cell) j.l j.h j.k + 1 < volume_length (cell_group cell) (cell_halves cell)
  unfolding planes
  middle_inside l z = pair_inside s j i b j.l (by_alternating (λ g. j.l < layers g (cell_halves cell)) (omega arith) (omega arith) (cell_group cell) j.h e)

-- ---- the column that a factor is read from

pub column_numbers : (g : Group) (a j i : J) → i ≡ stored_column a j → numbers_read g a j ≡ line_numbers g a (line_kind g i.0) i.0 i.1 i.2
unfolding numbers_read
column_numbers g a j i e = go (leb j.1 a.1) ∙ ap numbers (sym e)
  where
    numbers : J → List ℕ
    numbers i = line_numbers g a (line_kind g i.0) i.0 i.1 i.2

    go : (b : Bool) → cond b (numbers j) (numbers (neg_i a.0 j.0, neg_i a.1 j.1, neg_i a.2 j.2)) ≡ numbers (cond b j (neg_i a.0 j.0, neg_i a.1 j.1, neg_i a.2 j.2))
    go true = refl
    go false = refl

-- ---- the plane of a point

-- the operation that leads to the stored planes is the second of its list
plane_own : (n : ℕ) → n < 5 → (n ≡ 0 → ⊥) → get_or (ops (group_of n)) 1 one ≡ plane_sym (group_of n)
plane_own = by_halved (λ g. get_or (ops g) 1 one ≡ plane_sym g) refl refl refl refl

module _ (g : Group) (a x : J) where
  pub stored_plane : x.2 < planes g a.2 → x ≡ point_image a (point_operation g a x) x
  unfolding point_operation
  stored_plane l = rw (lt-ltb x.2 (planes g a.2) l) (sym (point_one a x))

  other_plane : planes g a.2 ≤ x.2 → plane_sym g ≡ point_operation g a x
  unfolding point_operation
  other_plane l = rw (le-ltb x.2 (planes g a.2) l)

-- the image under that operation, as the code finds it
pub other_point : (n : ℕ) → n < 5 → (n ≡ 0 → ⊥) → (a x : J) {s : Sym} → s ≡ get_or (ops (group_of n)) 1 one → planes (group_of n) a.2 ≤ x.2 → point_image a s x ≡ point_image a (point_operation (group_of n) a x) x
other_point n l z a x f p = ap (λ s. point_image a s x) (f ∙ plane_own n l z ∙ other_plane (group_of n) a x p)

pub point_place_lem : {cell : UnitCell} (s : Sizes cell) (x y : Point) (q : ℕ) → PointWithin cell x → PointWithin cell y
    → point_of y ≡ point_image (cell_halves cell) (point_operation (cell_group cell) (cell_halves cell) (point_of x)) (point_of x) → q ≡ pair_place P1 (cell_halves cell) y.z y.x 0
    → (2 * q + y.y ≡ density_place (cell_group cell) (cell_halves cell) (point_of x)) × (2 * q + y.y < volume_length (cell_group cell) (cell_halves cell))
point_place_lem {cell} s x y q ix iy e f =
    let g = cell_group cell in
    let a = cell_halves cell in
    let held : y.z < layers g a = subst (λ z. z.2 < layers g a) (sym e) (point_operation_stored g a (point_of x) (point_inside s ix)) in
    (number (y.z * (2 * (cell.n1 / 2)) + y.x) f ∙ ap (map_place g a) e, omega (arith, place_inside g a {w = y.z} {h = y.x} {k = y.y / 2} held (omega arith) (omega arith)))
  where
    number : (r : ℕ) → q ≡ r * suc (cell.n2 / 2) + 0 → 2 * q + y.y ≡ r * (2 * suc (cell.n2 / 2)) + y.y
    number r p = omega arith
