-- The factor at a stored place is the line's: the value of its own pair, but at the ends of an alternating line that of one number of pair 0, and zero at those of an antisymmetric line.
use mathlib.Core.Path.{◌≡◌, refl, sym, ◌∙◌, ap, subst}
use mathlib.Core.Logic.{⊎_elim}
use mathlib.Core.Bool.{Bool, true, false, ◌||◌, ◌&&◌, cond}
use mathlib.Core.List.{List, [], ◌∷◌}
use Prim.Native.Nat.{ℕ, suc, ◌+◌, ◌*◌, ◌-◌, ◌/◌, ◌%◌, ◌<◌, ◌≤◌, min}
use native.Mathlib.Omega.{arith}
use lib.ListN.{get_or}
use lib.Dec.{T, eqb, ltb, ltb→lt}
use borrow.Author.Tests.{eq-eqb, ne_eqb, eqb-true, eqb-false, lt-ltb}
use Rattle.algebra.specs.cells.Cell.{every, J, Group, P2₁, Pa, span, planes}
use Rattle.algebra.specs.ring.Ring.{residues, gauss}
use Rattle.algebra.specs.lines.Kinds.{Kind, Kind.alternating, Kind.symmetric, Kind.antisymmetric}
use Rattle.algebra.specs.cells.CellPack.{even, of_part}
use Rattle.algebra.proofs.ring.Bool.{and_l, and_r}
use Rattle.numbers.specs.declared.Pair.{Pair}
use Rattle.numbers.specs.Value.{prime, Value, field, ring, value_of, pair_of}
use Rattle.numbers.specs.Bounds.{Small}
use Rattle.numbers.proofs.Primes.{prime_pos}
use Rattle.numbers.proofs.Residues.{val_res}
use Rattle.numbers.proofs.Values.{pair_path, pair_value}
use Rattle.slices.specs.Pairs.{at, Below, values_of}
use Rattle.lengths.specs.Lengths.{kind_of}
use Rattle.cell.specs.Volume.{group_of, line_kind, pair_place, pair_numbers, line_numbers, whole_line}
use Rattle.cell.specs.declared.operations.Index.{Index}
use Rattle.cell.specs.declared.operations.UnitCell.{UnitCell}
use Rattle.cell.specs.Operations.{cell_group, cell_halves, Length}
use Rattle.cell.specs.TestSteps.{IsVolume, IsStored, PairInside}
use Rattle.cell.proofs.Tests.{true_iff}
use Rattle.cell.proofs.VolumeLayout.{place_inside}
use Rattle.cell.proofs.LineReading.{read_line, read_plain, read_symmetric, alternating_first, alternating_middle, alternating_low, read_first, read_last, read_between}
use Rattle.cell.proofs.Reading.{pairs_in}
use Rattle.cell.proofs.OperationLaws.{by_group}
use Rattle.cell.proofs.LineKinds.{is_kind, other_kind, by_alternating, by_other, stored_layer, alternating_half}
use Rattle.cell.proofs.PlaceLaws.{even_is, odd_is, at_end, not_end}
use Rattle.cell.specs.Places.{all_below_at, line_numbers_at, stored_factor, IsStoredFactor}

-- ---- pairs that lie in the volume

pub layers_most : {n3 : ℕ} → Length n3 → (n : ℕ) → n < 5 → planes (group_of n) (n3 / 2) ≤ n3
unfolding planes
layers_most {n3} l = by_group (λ g. planes g (n3 / 2) ≤ n3) (omega arith) (omega arith) (omega arith) (omega arith) (omega arith)

module _ {cell : UnitCell} {v : List ℕ} (volume : IsVolume cell v) where
  pub pair_inside : (w h k : ℕ) → w < planes (cell_group cell) (cell.n3 / 2) → h < cell.n1 → k ≤ cell.n2 / 2 → PairInside cell v w h k
  pair_inside w h k lw lh lk =
      let s = volume.sizes in
      record {
        sizes = s;
        layer = omega (arith, layers_most s.third cell.group s.known, s.third.high);
        row = omega (arith, s.first.high);
        column = omega (arith, s.second.high);
        inside = omega (arith, volume.long, place_inside (cell_group cell) (cell_halves cell) {w = w} {h = h} {k = k} lw (omega (arith, s.first.even)) (omega arith));
      }

  -- the pair of a stored index; in an alternating line the ends have none of their own
  pub own_inside : {j : Index} → IsStored cell j → j.l < planes (cell_group cell) (cell.n3 / 2) → PairInside cell v j.l j.h j.k
  own_inside {j} stored l = pair_inside j.l j.h j.k l stored.h stored.k

  pub stored_inside : {j : Index} → IsStored cell j → (line_kind (cell_group cell) j.h ≡ alternating → ⊥) → PairInside cell v j.l j.h j.k
  stored_inside {j} stored z = own_inside stored (stored_layer (cell_group cell) j.h (cell.n3 / 2) j.l z stored.l)

  -- pair 0 and the pairs between the ends of an alternating line
  module _ {j : Index} (stored : IsStored cell j) (e : line_kind (cell_group cell) j.h ≡ alternating) where
    pub first_inside : PairInside cell v 0 j.h j.k
    unfolding planes
    first_inside =
        let low = volume.sizes.third.low in
        pair_inside 0 j.h j.k (by_alternating (λ g. 0 < planes g (cell.n3 / 2)) (omega (arith, low)) (omega (arith, low)) (cell_group cell) j.h e) stored.h stored.k

    pub middle_inside : (j.l ≡ cell.n3 / 2 → ⊥) → PairInside cell v j.l j.h j.k
    unfolding planes
    middle_inside z =
        let half = alternating_half (cell_group cell) j.h e stored.l in
        own_inside stored (by_alternating (λ g. j.l < planes g (cell.n3 / 2)) (omega (arith, half)) (omega (arith, half)) (cell_group cell) j.h e)

-- ---- numbers below the prime stand for themselves

-- so they are all, where the whole volume is below it
pub all_below_at_lem : {p : ℕ} {v : List ℕ} → Below p v → (places : List ℕ) → all_below_at p v places ≡ true
unfolding every
all_below_at_lem small [] = refl
all_below_at_lem {p} {v} small (q ∷ l) = rw (lt-ltb (get_or v q 0) p (small.each q)) (all_below_at_lem small l)

module _ (m : ℕ) (v : List ℕ) where
  low_number : (q : ℕ) → all_below_at (prime m) v (q ∷ []) ≡ true → get_or v q 0 < prime m
  unfolding every
  low_number q e = ltb→lt _ _ (and_l (ltb (get_or v q 0) (prime m)) true ((true_iff _).0 e))

  low_pair_lem : (p : ℕ) → all_below_at (prime m) v (2 * p ∷ (2 * p + 1) ∷ []) ≡ true → Small (prime m) (at v p)
  unfolding every at
  low_pair_lem p e =
      let t = (true_iff (ltb (get_or v (2 * p) 0) (prime m) && (ltb (get_or v (2 * p + 1) 0) (prime m) && true))).0 e in
      record { re = ltb→lt _ _ (and_l (ltb (get_or v (2 * p) 0) (prime m)) _ t); im = ltb→lt _ _ (and_l (ltb (get_or v (2 * p + 1) 0) (prime m)) true (and_r (ltb (get_or v (2 * p) 0) (prime m)) _ t)) }

  -- one number of the pair at p, which the code holds as x
  module _ (p : ℕ) {x : Pair} (e : x ≡ at v p) where
    first_number : get_or v (2 * p) 0 < prime m → record { re = x.re; im = 0 } ≡ pair_of ((values_of m v p).0, (ring m).zer)
    unfolding value_of at pair_of residues
    first_number l = ap (λ x. record { re = x.re; im = 0 }) e ∙ pair_path (sym (val_res m l)) (sym (val_res m (prime_pos m)))

    second_even : get_or v (2 * p + 1) 0 < prime m → record { re = x.im; im = 0 } ≡ pair_of (of_part (ring m) true (values_of m v p).1)
    unfolding value_of at pair_of residues
    second_even l = ap (λ x. record { re = x.im; im = 0 }) e ∙ pair_path (sym (val_res m l)) (sym (val_res m (prime_pos m)))

    second_odd : get_or v (2 * p + 1) 0 < prime m → record { re = 0; im = x.im } ≡ pair_of (of_part (ring m) false (values_of m v p).1)
    unfolding value_of at pair_of residues
    second_odd l = ap (λ x. record { re = 0; im = x.im }) e ∙ pair_path (sym (val_res m (prime_pos m))) (sym (val_res m l))

zero_pair_lem : (m : ℕ) → record { re = 0; im = 0 } ≡ pair_of (field m).zer
unfolding pair_of gauss residues
zero_pair_lem m = pair_path (sym (val_res m (prime_pos m))) (sym (val_res m (prime_pos m)))

-- ---- a stored factor

module _ (g : Group) (a : J) (m : ℕ) (v : List ℕ) (j : J) where
  reads_by : {places : List ℕ} {z : Value m} {r : Pair} → line_numbers_at g a j ≡ places → stored_factor g a m v j ≡ z → (all_below_at (prime m) v places ≡ true → r ≡ pair_of z) → IsStoredFactor g a m v j r
  reads_by e f h t = h (sym (ap (all_below_at (prime m) v) e) ∙ t) ∙ sym (ap pair_of f)

  pub pair_reads : (line_numbers_at g a j ≡ pair_numbers g a j.2 j.0 j.1) × (stored_factor g a m v j ≡ pairs_in g a m v j.2 j.0 j.1) → {x : Pair} → x ≡ at v (pair_place g a j.2 j.0 j.1) → IsStoredFactor g a m v j x
  pair_reads e x = reads_by e.0 e.1 (λ t. x ∙ sym (pair_value m (low_pair_lem m v (pair_place g a j.2 j.0 j.1) t)))

pub own_pair : (c l : ℕ) → l ≤ c → min l (2 * c - l) ≡ l
own_pair c l s = omega arith

-- an alternating line: one number at either end, else a pair
module _ (a : J) (pos : 0 < a.2) (m : ℕ) (v : List ℕ) (j : J) where
  abbrev line : ℕ → Value m
  line w = pairs_in P2₁ a m v w j.0 j.1

  abbrev first : ℕ
  first = pair_place P2₁ a 0 j.0 j.1

  pub first_value : j.2 ≡ 0 → {x : Pair} → x ≡ at v first → IsStoredFactor P2₁ a m v j (record { re = x.re; im = 0 })
  unfolding whole_line
  first_value z e = reads_by P2₁ a m v j
      (rw (eq-eqb j.2 0 z) refl)
      (ap (read_line m a.2 alternating line) z ∙ alternating_first m a.2 line)
      (λ t. first_number m v first e (low_number m v (2 * first) t))

  module _ (y : j.2 ≡ 0 → ⊥) where
    module _ (z : j.2 ≡ a.2) {x : Pair} (e : x ≡ at v first) where
      second_by : {r : Pair} (b : Bool) → even a.2 ≡ b → (get_or v (2 * first + 1) 0 < prime m → r ≡ pair_of (of_part (ring m) b (line 0).1)) → IsStoredFactor P2₁ a m v j r
      unfolding whole_line
      second_by b p h = reads_by P2₁ a m v j
          (rw (ne_eqb j.2 0 y, eq-eqb j.2 a.2 z) refl)
          (ap (read_line m a.2 alternating line) z ∙ alternating_middle m a.2 line pos ∙ ap (λ b. of_part (ring m) b (line 0).1) p)
          (λ t. h (low_number m v (2 * first + 1) t))

      pub second_value_even : a.2 % 2 ≡ 0 → IsStoredFactor P2₁ a m v j (record { re = x.im; im = 0 })
      second_value_even b = second_by true (even_is a.2 b) (second_even m v first e)

      pub second_value_odd : (a.2 % 2 ≡ 0 → ⊥) → IsStoredFactor P2₁ a m v j (record { re = 0; im = x.im })
      second_value_odd b = second_by false (odd_is a.2 b) (second_odd m v first e)

    pub middle_value : (j.2 ≡ a.2 → ⊥) → j.2 ≤ a.2 → {x : Pair} → x ≡ at v (pair_place P2₁ a j.2 j.0 j.1) → IsStoredFactor P2₁ a m v j x
    unfolding whole_line
    middle_value z l = pair_reads P2₁ a m v j (
      rw (ne_eqb j.2 0 y, ne_eqb j.2 a.2 z) (ap (λ w. pair_numbers P2₁ a w j.0 j.1) (own_pair a.2 j.2 l)),
      alternating_low m a.2 line j.2 (omega arith) (omega arith),
    )

-- what is read in P2₁ is read in each group with alternating lines
pub screw_reads : (a : J) (m : ℕ) (v : List ℕ) (j : J) (g : Group) → line_kind g j.0 ≡ alternating → {r : Pair} → IsStoredFactor P2₁ a m v j r → IsStoredFactor g a m v j r
unfolding whole_line
screw_reads a m v j g e {r} f = by_alternating (λ g. IsStoredFactor g a m v j r) f f g j.0 e

-- in the other lines: a pair, or nothing at the ends of an antisymmetric one
module _ (a : J) (pos : 0 < a.2) (m : ℕ) (v : List ℕ) (j : J) where
  abbrev InPair : Group → Type 0
  InPair g = (line_numbers_at g a j ≡ pair_numbers g a j.2 j.0 j.1) × (stored_factor g a m v j ≡ pairs_in g a m v j.2 j.0 j.1)

  abbrev row : ℕ → Value m
  row w = pairs_in Pa a m v w j.0 j.1

  half_pair : j.2 ≤ a.2 → pair_numbers Pa a (min j.2 (2 * a.2 - j.2)) j.0 j.1 ≡ pair_numbers Pa a j.2 j.0 j.1
  half_pair l = ap (λ w. pair_numbers Pa a w j.0 j.1) (own_pair a.2 j.2 l)

  glide_pair : (b : Bool) → (cond b symmetric antisymmetric ≡ antisymmetric → (eqb j.2 0 || eqb j.2 a.2) ≡ false) → j.2 ≤ a.2
      → (line_numbers Pa a (cond b symmetric antisymmetric) j.0 j.1 j.2 ≡ pair_numbers Pa a j.2 j.0 j.1) × (read_line m a.2 (cond b symmetric antisymmetric) row j.2 ≡ row j.2)
  glide_pair true e l = (half_pair l, read_symmetric m a.2 pos row j.2 (omega arith))
  glide_pair false e l =
      let n = not_end j.2 a.2 (e refl) in
      (rw (e refl) (half_pair l), read_between m a.2 row j.2 (positive n.0) (less n.1))
    where
      positive : (j.2 ≡ 0 → ⊥) → 0 < j.2
      positive n = omega arith

      less : (j.2 ≡ a.2 → ⊥) → j.2 < a.2
      less n = omega arith

  pub stored_pair : (g : Group) → (line_kind g j.0 ≡ alternating → ⊥) → (line_kind g j.0 ≡ antisymmetric → (eqb j.2 0 || eqb j.2 a.2) ≡ false) → j.2 < span g a.2 → InPair g
  unfolding whole_line span
  stored_pair g z e s = by_other (λ g. (line_kind g j.0 ≡ antisymmetric → (eqb j.2 0 || eqb j.2 a.2) ≡ false) → j.2 < span g a.2 → InPair g)
      (λ e s. (refl, read_plain m a.2 row j.2))
      (λ e s. (half_pair (omega arith), read_symmetric m a.2 pos row j.2 s))
      (λ e s. glide_pair (even j.0) e (omega arith))
      g j.0 z e s

  pub absent_value : (g : Group) → line_kind g j.0 ≡ antisymmetric → (eqb j.2 0 || eqb j.2 a.2) ≡ true → IsStoredFactor g a m v j (record { re = 0; im = 0 })
  unfolding whole_line
  absent_value g e end t = zero_pair_lem m ∙ sym (ap pair_of (ap (λ kind. read_line m a.2 kind row j.2) e
      ∙ ⊎_elim (λ z. ap (read_line m a.2 antisymmetric row) z ∙ read_first m a.2 row) (λ z. ap (read_line m a.2 antisymmetric row) z ∙ read_last m a.2 pos row) (at_end j.2 a.2 end)))

-- what the code's test of the two together says of a line whose kind has the number n
module _ {n : ℕ} {K : Kind} (e : kind_of n ≡ K) (l : n < 6) {end : Bool} where
  pub absent_true : (eqb n 5 && end) ≡ true → (K ≡ antisymmetric) × (end ≡ true)
  absent_true t = go (eqb n 5) refl t
    where
      go : (b : Bool) → eqb n 5 ≡ b → (b && end) ≡ true → (K ≡ antisymmetric) × (end ≡ true)
      go true q t = (is_kind e (eqb-true n 5 q), t)
      go false q t = absurd (subst T (sym t) tt)

  pub absent_false : (eqb n 5 && end) ≡ false → K ≡ antisymmetric → end ≡ false
  absent_false t k = go (eqb n 5) refl t
    where
      go : (b : Bool) → eqb n 5 ≡ b → (b && end) ≡ false → end ≡ false
      go true q t = t
      go false q t = absurd (other_kind e l (eqb-false n 5 q) k)

-- ---- the number of a point

pub number_place_lem : (n2 r q k : ℕ) → q ≡ r * suc (n2 / 2) + 0 → 2 * q + k ≡ r * (2 * suc (n2 / 2)) + k
number_place_lem n2 r q k e = omega arith
