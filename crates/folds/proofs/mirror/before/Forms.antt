-- Symmetric and antisymmetric lines: the value that the code reads at each place, and the sum of the odd places, are those of the theory.
use mathlib.Core.Path.{◌≡◌, refl, sym, ◌∙◌, ap, ap₂}
use mathlib.Core.List.{List, [], ◌∷◌}
use Prim.Native.Nat.{ℕ, zero, suc, ◌+◌, ◌*◌, ◌-◌, ◌<◌, ◌≤◌}
use native.Mathlib.Omega.{arith}
use native.Mathlib.Decide.{ℕ_discrete}
use Rattle.algebra.specs.ring.Ring.{Ops, sum, residues, gauss}
use Rattle.algebra.specs.ring.RingLaws.{CRing}
use Rattle.algebra.specs.lines.Packings.{unfold4, unfold5}
use Rattle.algebra.specs.lines.Kinds.{unfold_before}
use Rattle.algebra.proofs.ring.Laws.{along, neg_zero, neg_neg}
use Rattle.algebra.proofs.ring.Solver.{ring, quote, linear}
use Rattle.algebra.proofs.fourier.Sums.{sum_cong, sum_mul, sum_rev}
use Rattle.algebra.proofs.lines.Unfold.{unfold_zero, unfold_low, unfold_middle, unfold_high, unfold_reflected, at_mirror}
use Rattle.numbers.specs.declared.Pair.{Pair}
use Rattle.numbers.specs.declared.Accumulator.{Accumulator}
use Rattle.numbers.specs.Unreduced.{Accumulated}
use Rattle.numbers.specs.Value.{prime, IsModulus, Value, field, conj, i, real, half, value, value_of, pair_of, on_values}
use Rattle.numbers.specs.Bounds.{Small}
use Rattle.numbers.proofs.Primes.{prime_pos, prime_most}
use Rattle.numbers.proofs.Values.{pair_value, small_by, value_by, value_add, field_ring}
use Rattle.numbers.proofs.Parts.{half_law}
use Rattle.slices.specs.Pairs.{at, Below, values_of}
use Rattle.slices.proofs.Values.{read_value}
use Rattle.folds.specs.FoldedLines.{whole_line}

-- ---- the line

zero_pair_lem : (m : ℕ) → record { re = 0; im = 0 } ≡ pair_of (field m).zer
unfolding value_of gauss residues
zero_pair_lem m = sym (pair_value m (record { re = prime_pos m; im = prime_pos m }))

module _ (m A : ℕ) (l : List ℕ) where
  abbrev even : ℕ → Value m
  even = on_values m unfold4 A (values_of m l)

  abbrev odd : ℕ → Value m
  odd = on_values m unfold5 A (λ t. values_of m l (t - 1))

  module _ (j : ℕ) where
    pub symmetric_low : {v : Pair} → Below (prime m) l → 0 < A → j ≤ A → v ≡ at l j → v ≡ pair_of (even j)
    symmetric_low b q h e = read_value m l j e b ∙ ap pair_of (sym (low j h))
      where
        low : (t : ℕ) → t ≤ A → even t ≡ values_of m l t
        low zero h = unfold_zero A _ _ _ _
        low (suc t) h = go (ℕ_discrete (suc t) A)
          where
            go : Dec (suc t ≡ A) → even (suc t) ≡ values_of m l (suc t)
            go (yes e) = ap even e ∙ unfold_middle A _ _ _ _ q ∙ ap (values_of m l) (sym e)
            go (no n) = unfold_low A _ _ _ _ (suc t) (omega arith) (omega arith)

    pub symmetric_high : {v : Pair} → Below (prime m) l → A < j → j < 2 * A → v ≡ at l (2 * A - j) → v ≡ pair_of (even j)
    symmetric_high b h k e = read_value m l (2 * A - j) e b ∙ ap pair_of (sym (unfold_high A _ _ _ _ j (2 * A - j) h (omega arith)))

    pub antisymmetric_zero : j ≡ 0 → record { re = 0; im = 0 } ≡ pair_of (odd j)
    antisymmetric_zero e = zero_pair_lem m ∙ ap pair_of (sym (ap odd e ∙ unfold_zero A _ _ _ _))

    pub antisymmetric_middle : 0 < A → j ≡ A → record { re = 0; im = 0 } ≡ pair_of (odd j)
    antisymmetric_middle q e = zero_pair_lem m ∙ ap pair_of (sym (ap odd e ∙ unfold_middle A _ _ _ _ q))

    pub antisymmetric_low : {v : Pair} → Below (prime m) l → 0 < j → j < A → v ≡ at l (j - 1) → v ≡ pair_of (odd j)
    antisymmetric_low b h k e = read_value m l (j - 1) e b ∙ ap pair_of (sym (unfold_low A _ _ _ _ j h k))

    pub antisymmetric_high : {v r : Pair} → A < j → j < 2 * A → v ≡ at l (2 * A - j - 1) → r ≡ pair_of ((field m).neg (value_of m v)) → r ≡ pair_of (odd j)
    antisymmetric_high h k e n =
        n ∙ ap pair_of (ap (λ (w : Pair). (field m).neg (value_of m w)) e ∙ sym (unfold_high A _ _ _ _ j (2 * A - j) h (omega arith)))

    -- the line that `first` tells
    pub line_symmetric : {first : ℕ} {r : Pair} → first ≡ 0 → r ≡ pair_of (even j) → r ≡ pair_of (whole_line m A first l j)
    unfolding unfold_before
    line_symmetric e h = h ∙ ap (λ f. pair_of (whole_line m A f l j)) (sym e)

    pub line_antisymmetric : {first : ℕ} {r : Pair} → first ≤ 1 → (first ≡ 0 → ⊥) → r ≡ pair_of (odd j) → r ≡ pair_of (whole_line m A first l j)
    unfolding unfold_before
    line_antisymmetric {first} n e h = h ∙ ap (λ f. pair_of (whole_line m A f l j)) one
      where
        one : 1 ≡ first
        one = omega arith

-- ---- values that the code holds as pairs

module _ (m : ℕ) where
  pub by_values : {a b r : Pair} (f : Value m → Value m → Value m) (x y : Value m) → r ≡ pair_of (f (value_of m a) (value_of m b)) → a ≡ pair_of x → b ≡ pair_of y → r ≡ pair_of (f x y)
  by_values f x y h p q = h ∙ ap pair_of (ap₂ f (value_by m x p) (value_by m y q))

-- ---- the sum of the odd places

-- a number that is its own negative is zero, where one half is there; the odd places of an antisymmetric line cancel in pairs
module _ {R : Type 0} {𝓞 : Ops R} (𝓡 : CRing 𝓞) where
  open 𝓞 use {add as ◌⊕◌, mul as ◌⊗◌, neg as ⊖◌, zer as 𝟘, one as 𝟙}

  infixl 65 ◌⊕◌
  infixl 70 ◌⊗◌
  infix 75 ⊖◌
  own_negative : (h x : R) → h ⊗ (𝟙 ⊕ 𝟙) ≡ 𝟙 → x ≡ (⊖ 𝟙) ⊗ x → x ≡ 𝟘
  own_negative h x a b = linear 𝓡 b h (linear 𝓡 a (⊖ x) (ring 𝓡 (h ∷ x ∷ []) (search quote depth 40 fits 9999) refl))

  minus : (x : R) → ⊖ x ≡ (⊖ 𝟙) ⊗ x
  minus x = ring 𝓡 (x ∷ []) (search quote depth 40 fits 9999) refl

  odd_places : (conj : R → R) (i half : R) (A : ℕ) (p : ℕ → R) → half ⊗ (𝟙 ⊕ 𝟙) ≡ 𝟙 → 0 < A → sum 𝓞 A (λ t. unfold5 𝓞 conj i half A p (2 * t + 1)) ≡ 𝟘
  odd_places conj i half A p h q =
      own_negative half _ h
      (sym (sum_rev 𝓡 A (λ t. X (2 * t + 1))) ∙ sum_cong 𝓡 A _ _ (λ t l. mirror t l ∙ minus _) ∙ sum_mul 𝓡 A (⊖ 𝟙) (λ t. X (2 * t + 1)))
    where
      X : ℕ → R
      X = unfold5 𝓞 conj i half A p

      mirror : (t : ℕ) → t < A → X (2 * (A - suc t) + 1) ≡ ⊖ X (2 * t + 1)
      mirror t l =
          at_mirror 𝓡 (2 * A) (λ t x. ⊖ x) X
          (unfold_reflected A _ _ (λ t x. ⊖ x) p 𝓞 q (neg_zero 𝓡) (neg_zero 𝓡) (λ t u x e. neg_neg 𝓡 x))
          (2 * t + 1) (2 * (A - suc t) + 1) (omega arith) (omega arith) (omega arith)

module _ (m A first : ℕ) (l : List ℕ) where
  abbrev odd_sum : ℕ → Value m
  odd_sum n = sum (field m) n (λ t. whole_line m A first l (2 * t + 1))

  pub odd_sum_none : first ≡ 1 → 0 < A → record { re = 0; im = 0 } ≡ pair_of (odd_sum A)
  unfolding unfold_before
  odd_sum_none e q =
      zero_pair_lem m
      ∙ ap pair_of (sym (odd_places (field_ring m) (conj m) (i m) (real m (half m)) A (λ t. values_of m l (t - 1)) (half_law m) q))
      ∙ ap (λ f. pair_of (sum (field m) A (λ t. whole_line m A f l (2 * t + 1)))) (sym e)

  -- t of the odd places are summed
  pub record OddSum (s : Accumulator) (t : ℕ) : Type 0 where
    pub le : t ≤ A
    pub is : Accumulated m t s (odd_sum t)

  pub odd_sum_start : {s : Accumulator} → Accumulated m 0 s (field m).zer → OddSum s 0
  unfolding sum
  odd_sum_start h = record { le = omega arith; is = h }

  pub odd_sum_next : {s r : Accumulator} {x : Pair} {t : ℕ} → OddSum s t → t < A → x ≡ pair_of (whole_line m A first l (2 * t + 1))
      → ((n : ℕ) (z : Value m) → Accumulated m n s z → Accumulated m (n + 1) r ((field m).add z (value_of m x))) → OddSum r (t + 1)
  unfolding sum
  odd_sum_next {r = r} {t = t} h lt e f =
      let g = f t (odd_sum t) h.is in
      record {
        le = omega arith;
        is = record { re = g.re; im = g.im; value_is = g.value_is ∙ ap ((field m).add (odd_sum t)) (value_by m _ e) ∙ along odd_sum (suc t) (t + 1) (omega arith) };
      }

  pub odd_sum_done : {s : Accumulator} {r : Pair} {t : ℕ} → OddSum s t → A ≤ t → r ≡ pair_of (value m s.re s.im) → r ≡ pair_of (odd_sum A)
  odd_sum_done {t = t} h l e = e ∙ ap pair_of h.is.value_is ∙ along (λ n. pair_of (odd_sum n)) t A (omega (arith, h.le))

-- one value more, not reduced
pub accumulated_plus : (m n : ℕ) (s : Accumulator) (x : Pair) (z : Value m) → x.re ≤ 302399 → x.im ≤ 302399 → Accumulated m n s z
    → Accumulated m (n + 1) (record { re = s.re + x.re; im = s.im + x.im }) ((field m).add z (value_of m x))
unfolding value_of
accumulated_plus m n s x z hr hi h = record {
  re = omega arith;
  im = omega arith;
  value_is = value_add m s.re s.im x.re x.im ∙ ap (λ y. (field m).add y (value m x.re x.im)) h.value_is;
}

-- a residue is small enough for that
pub residue_most : {m : ℕ} {x : Pair} → IsModulus m → (z : Value m) → x ≡ pair_of z → (x.re ≤ 302399) × (x.im ≤ 302399)
residue_most {m} {x} c z e = let s : Small (prime m) x = small_by m z e in (omega (arith, prime_most c), omega (arith, prime_most c))
