-- The factor at any index as the code reads it: beyond the stored half it is what the line's own operation implies, and above k = B the conjugate of its mate.
use mathlib.Core.Path.{◌≡◌, refl, sym, ◌∙◌, ap, ap₂, subst}
use mathlib.Core.Logic.{◌⊎◌, inl, inr, ⊎_elim, ◌↔◌}
use mathlib.Core.Bool.{Bool, true, false, ◌&&◌, cond}
use mathlib.Core.List.{List, [], ◌∷◌}
use Prim.Native.Nat.{ℕ, zero, suc, ◌+◌, ◌*◌, ◌-◌, ◌<◌, ◌≤◌, min}
use native.Mathlib.Omega.{arith}
use native.Mathlib.Numerals.{add-one}
use lib.Dec.{T, leb, ltb, ltb→lt, lt→ltb}
use lib.ListN.{length, get_or, take, drop}
use lib.Seq.{drop-cons}
use borrow.Author.Tests.{ne_eqb, le-leb, lt-leb}
use Rattle.std.specs.Prelude.{IsTrue, EachIndex}
use Rattle.algebra.specs.lines.Kinds.{Kind, Kind.alternating, Kind.symmetric, Kind.antisymmetric}
use Rattle.algebra.specs.cells.Cell.{J, Inside, Sym, Group, P2₁, Pm, Pa, P2₁2₁2₁, neg_i, image_of, flip, span, implied_value, every}
use Rattle.algebra.specs.cells.CellPlaces.{line_sym}
use Rattle.algebra.specs.cells.CellPack.{even}
use Rattle.algebra.proofs.ring.Bool.{and_l, and_r, and_i, same_test}
use Rattle.algebra.proofs.ring.Laws.{along}
use Rattle.algebra.proofs.cells.CellAxis.{neg_pos}
use Rattle.numbers.specs.declared.Pair.{Pair}
use Rattle.numbers.specs.Value.{field, conj, value_of, pair_of}
use Rattle.numbers.proofs.Values.{value_by}
use Rattle.cell.specs.Volume.{group_of, pair_numbers, line_numbers, factors_in}
use Rattle.cell.specs.Places.{consecutive, all_below_at, line_numbers_at, line_factor}
use Rattle.slices.specs.Pairs.{all_below}
use Rattle.cell.proofs.Reading.{line_beyond}
use Rattle.cell.proofs.OperationLaws.{by_group}

-- ---- beyond the stored half

module _ (g : Group) (a : J) (h k l u : ℕ) (high : a.2 < l) (pos : 0 < u) (e : l + u ≡ 2 * a.2) where
  mirror_pair : pair_numbers g a (min u (2 * a.2 - u)) h k ≡ pair_numbers g a (min l (2 * a.2 - l)) h k
  mirror_pair = along (λ w. pair_numbers g a w h k) (min u (2 * a.2 - u)) (min l (2 * a.2 - l)) (omega arith)

  mirror_numbers : (kind : Kind) → (kind ≡ alternating) ⊎ ((kind ≡ symmetric) ⊎ (kind ≡ antisymmetric)) → line_numbers g a kind h k u ≡ line_numbers g a kind h k l
  mirror_numbers kind = ⊎_elim
      (λ q. rw (q, ne_eqb u 0 (λ z. omega arith), ne_eqb u a.2 (λ z. omega arith), ne_eqb l 0 (λ z. omega arith), ne_eqb l a.2 (λ z. omega arith)) mirror_pair)
      (⊎_elim (λ q. rw q mirror_pair)
      (λ q. rw (q, ne_eqb u 0 (λ z. omega arith), ne_eqb u a.2 (λ z. omega arith), ne_eqb l 0 (λ z. omega arith), ne_eqb l a.2 (λ z. omega arith)) mirror_pair))

abbrev Beyond : J → J → Group → Type 0
Beyond a j g = let i = image_of a (line_sym g) j in (line_numbers_at g a i ≡ line_numbers_at g a j) × (i.1 ≡ j.1) × (i.2 < span g a.2)

-- the other half of a line is read from the same numbers
pub beyond_numbers : (a j : J) → Inside a j → (n : ℕ) → n < 5 → span (group_of n) a.2 ≤ j.2 → Beyond a j (group_of n)
unfolding span image_of flip
beyond_numbers a j i n b = by_group (λ g. span g a.2 ≤ j.2 → Beyond a j g)
    (λ s. absurd (omega (arith, i.2)))
    (λ s. (half P2₁ alternating (inl refl) (omega arith), refl, low (omega arith)))
    (λ s. (half Pm symmetric (inr (inl refl)) (omega arith), refl, low (omega arith)))
    (λ s. (half Pa (cond (even j.0) symmetric antisymmetric) (inr (glide (even j.0))) (omega arith), refl, low (omega arith)))
    (λ s. (half P2₁2₁2₁ alternating (inl refl) (omega arith), refl, low (omega arith)))
    n b
  where
    mate : a.2 < j.2 → neg_i a.2 j.2 ≡ 2 * a.2 - j.2
    mate s = neg_pos a.2 j.2 (omega arith) i.2

    low : a.2 < j.2 → neg_i a.2 j.2 < suc a.2
    low s = omega (arith, mate s)

    half : (g : Group) (kind : Kind) → (kind ≡ alternating) ⊎ ((kind ≡ symmetric) ⊎ (kind ≡ antisymmetric)) → a.2 < j.2 → line_numbers g a kind j.0 j.1 (neg_i a.2 j.2) ≡ line_numbers g a kind j.0 j.1 j.2
    half g kind q s = mirror_numbers g a j.0 j.1 j.2 (neg_i a.2 j.2) s (omega (arith, mate s, i.2)) (omega (arith, mate s, i.2)) kind q

    glide : (b : Bool) → (cond b symmetric antisymmetric ≡ symmetric) ⊎ (cond b symmetric antisymmetric ≡ antisymmetric)
    glide true = inl refl
    glide false = inr refl

-- the line's own operation changes the sign of l alone
pub line_image : (a j : J) → Inside a j → (n : ℕ) → n < 5 → span (group_of n) a.2 ≤ j.2 → (j.0, j.1, flip true a.2 j.2) ≡ image_of a (line_sym (group_of n)) j
unfolding span image_of flip
line_image a j i = by_group (λ g. span g a.2 ≤ j.2 → (j.0, j.1, flip true a.2 j.2) ≡ image_of a (line_sym g) j) (λ s. absurd (omega (arith, i.2))) (λ s. refl) (λ s. refl) (λ s. refl) (λ s. refl)

-- the same of the image as the code finds it
pub beyond_image : (a j i : J) → Inside a j → (n : ℕ) → n < 5 → i ≡ image_of a (line_sym (group_of n)) j → span (group_of n) a.2 ≤ j.2
    → (line_numbers_at (group_of n) a i ≡ line_numbers_at (group_of n) a j) × (i.1 ≡ j.1) × (i.2 < span (group_of n) a.2)
beyond_image a j i inside n b e l = subst
    (λ i. (line_numbers_at (group_of n) a i ≡ line_numbers_at (group_of n) a j) × (i.1 ≡ j.1) × (i.2 < span (group_of n) a.2))
    (sym e) (beyond_numbers a j inside n b l)

-- a factor from the other half is what the line's own operation implies
pub beyond_value : (a : J) (m : ℕ) (v : List ℕ) (j i : J) → Inside a j → (n : ℕ) {s : Sym} → s ≡ line_sym (group_of n) → i ≡ image_of a (line_sym (group_of n)) j → span (group_of n) a.2 ≤ j.2
    → {x y : Pair} → x ≡ pair_of (line_factor (group_of n) a m v i) → y ≡ pair_of (implied_value (field m) (conj m) s j (value_of m x)) → y ≡ pair_of (line_factor (group_of n) a m v j)
beyond_value a m v j i inside n e f l x y = y ∙ ap pair_of (ap₂ (λ s z. implied_value (field m) (conj m) s j z) e (value_by m _ x ∙ ap (line_factor (group_of n) a m v) f) ∙ sym (line_beyond (group_of n) a m v j inside l))

-- ---- the column

-- k above B: the conjugate of the factor at the Friedel mate
module _ (g : Group) (a : J) (m : ℕ) (v : List ℕ) (j i : J) (e : i ≡ cond (leb j.1 a.1) j (neg_i a.0 j.0, neg_i a.1 j.1, neg_i a.2 j.2)) {x : Pair} (f : x ≡ pair_of (line_factor g a m v i)) where
  pub own_column : j.1 ≤ a.1 → x ≡ pair_of (factors_in g a m v j.0 j.1 j.2)
  unfolding factors_in
  own_column l = rw (le-leb j.1 a.1 l) (f ∙ ap (λ i. pair_of (line_factor g a m v i)) (e ∙ rw (le-leb j.1 a.1 l) refl))

  pub mate_column : a.1 < j.1 → {y : Pair} → y ≡ pair_of (conj m (value_of m x)) → y ≡ pair_of (factors_in g a m v j.0 j.1 j.2)
  unfolding factors_in
  mate_column l q = rw (lt-leb j.1 a.1 l) (q ∙ ap (λ z. pair_of (conj m z)) (value_by m _ f ∙ ap (line_factor g a m v) (e ∙ rw (lt-leb j.1 a.1 l) refl)))

-- ---- a run of numbers below p

-- a test that holds exactly where each number of a list is below p
each_of : (p : ℕ) (l : List ℕ) → T (all_below p l) → (k : ℕ) → k < length l → get_or l k 0 < p
unfolding all_below
each_of p [] t k h = absurd (omega arith)
each_of p (x ∷ l) t zero h = ltb→lt x p (and_l (ltb x p) _ t)
each_of p (x ∷ l) t (suc k) h = each_of p l (and_r (ltb x p) _ t) k (omega arith)

of_each : (p : ℕ) (l : List ℕ) → ((k : ℕ) → k < length l → get_or l k 0 < p) → T (all_below p l)
unfolding all_below
of_each p [] f = tt
of_each p (x ∷ l) f = and_i (ltb x p) _ (lt→ltb x p (f zero (omega arith))) (of_each p l (λ k h. f (suc k) (omega arith)))

pub tested_below : (p : ℕ) (l : List ℕ) {b : Bool} → (IsTrue b ↔ EachIndex l (λ k. get_or l k 0 < p)) → b ≡ all_below p l
tested_below p l {b} h = same_test b (all_below p l)
    (λ t. of_each p l (h.0 (same_test b true (λ u. tt) (λ u. t))))
    (λ t. subst T (sym (h.1 (each_of p l t))) tt)

run_below : (p : ℕ) (v : List ℕ) (first count : ℕ) → first + count ≤ length v → all_below p (take count (drop first v)) ≡ all_below_at p v (consecutive first count)
unfolding all_below every consecutive
run_below p v first zero h = refl
run_below p v first (suc count) h =
    let inside : first < length v = omega arith in
    rw (drop-cons v first 0, ← add-one first) (ap (λ b. ltb (get_or v first 0) p && b) (run_below p v (first + 1) count (omega arith)))

pub part_below : (p : ℕ) (v : List ℕ) (first count n : ℕ) → n ≡ count → first + count ≤ length v → all_below p (take n (drop first v)) ≡ all_below_at p v (consecutive first count)
part_below p v first count n e h = ap (λ n. all_below p (take n (drop first v))) e ∙ run_below p v first count h
