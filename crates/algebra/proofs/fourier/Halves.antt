-- Sums over a whole line of what is the same at t and -t: over its stored half, where all but the ends count twice.
use mathlib.Core.Path.{◌≡◌, refl, sym, ◌∙◌, ap, ap₂}
use mathlib.Core.Bool.{Bool, true, false}
use mathlib.Core.List.{[], ◌∷◌}
use Prim.Native.Nat.{ℕ, zero, suc, ◌+◌, ◌*◌, ◌-◌, ◌<◌}
use native.Mathlib.Omega.{arith}
use borrow.Author.Tests.{eq-eqb, ne_eqb}
use Rattle.algebra.specs.ring.Ring.{Ops, sum}
use Rattle.algebra.specs.ring.RingLaws.{CRing}
use Rattle.algebra.specs.fourier.Halves.{doubled, between}
use Rattle.algebra.specs.cells.Cell.{neg_i, half_i, flip, shifted}
use Rattle.algebra.proofs.ring.Laws.{along}
use Rattle.algebra.proofs.ring.Solver.{ring, quote}
use Rattle.algebra.proofs.fourier.Sums.{sum_cong, sum_add, sum_append, sum_first, sum_rev, sum_neg_mod, sum_shift_mod}

pub between_inner : (A w : ℕ) → 0 < w → w < A → between A w ≡ true
between_inner A w p l = rw (ne_eqb w 0 (λ e. omega arith), ne_eqb w A (λ e. omega arith))

pub between_last : (A : ℕ) → between A A ≡ false
between_last zero = refl
between_last (suc n) = rw (ne_eqb (suc n) 0 (λ e. omega arith), eq-eqb (suc n) (suc n) refl)

module _ {R : Type 0} {𝓞 : Ops R} (𝓡 : CRing 𝓞) where
  open 𝓞 use {add as ◌⊕◌}

  infixl 65 ◌⊕◌
  -- a sum of what counts once or twice
  pub doubled_sum : (b : Bool) (n : ℕ) (f : ℕ → R) → sum 𝓞 n (λ i. doubled 𝓞 b (f i)) ≡ doubled 𝓞 b (sum 𝓞 n f)
  doubled_sum true n f = sum_add 𝓡 n f f
  doubled_sum false n f = refl

  -- the ends of the half line, and twice what is between
  pub half_ends : (n : ℕ) (f : ℕ → R) → sum 𝓞 (suc n) (λ w. doubled 𝓞 (between (suc n) w) (f w)) ≡ f 0 ⊕ doubled 𝓞 true (sum 𝓞 n (λ i. f (suc i)))
  half_ends n f =
      sum_first 𝓡 n _
      ∙ ap (λ y. f 0 ⊕ y) (sum_cong 𝓡 n _ _ (λ i l. ap (λ b. doubled 𝓞 b (f (suc i))) (between_inner (suc n) (suc i) (omega arith) (omega arith))) ∙ doubled_sum true n (λ i. f (suc i)))

  pub both_ends : (n : ℕ) (f : ℕ → R) → sum 𝓞 (suc (suc n)) (λ w. doubled 𝓞 (between (suc n) w) (f w)) ≡ (f 0 ⊕ f (suc n)) ⊕ doubled 𝓞 true (sum 𝓞 n (λ i. f (suc i)))
  unfolding sum
  both_ends n f = ap₂ ◌⊕◌ (half_ends n f) (ap (λ b. doubled 𝓞 b (f (suc n))) (between_last (suc n))) ∙ step _ _ _
    where
      step : (x y z : R) → (x ⊕ z) ⊕ y ≡ (x ⊕ y) ⊕ z
      step x y z = ring 𝓡 (x ∷ y ∷ z ∷ []) (search quote depth 40 fits 9999) refl

  pub ends_and_between : (A : ℕ) (f : ℕ → R) → 0 < A → sum 𝓞 (suc A) (λ w. doubled 𝓞 (between A w) (f w)) ≡ (f 0 ⊕ f A) ⊕ doubled 𝓞 true (sum 𝓞 (A - 1) (λ i. f (suc i)))
  ends_and_between zero f p = absurd (omega arith)
  ends_and_between (suc n) f p = both_ends n f ∙ along (λ k. (f 0 ⊕ f (suc n)) ⊕ doubled 𝓞 true (sum 𝓞 k (λ i. f (suc i)))) n (suc n - 1) (omega arith)

  -- a function of the whole line that is the same at t and -t
  pub whole_ends : (n : ℕ) (f : ℕ → R) → ((t u : ℕ) → 0 < t → suc n < u → u + t ≡ 2 * suc n → f u ≡ f t) → sum 𝓞 (2 * suc n) f ≡ (f 0 ⊕ f (suc n)) ⊕ doubled 𝓞 true (sum 𝓞 n (λ i. f (suc i)))
  whole_ends n f e =
      along (λ k. sum 𝓞 k f) (2 * suc n) (suc n + suc n) (omega arith)
      ∙ sum_append 𝓡 (suc n) (suc n) f
      ∙ ap₂ ◌⊕◌ (sum_first 𝓡 n f) (sum_first 𝓡 n (λ i. f (suc n + i)) ∙ ap₂ ◌⊕◌ (along f (suc n + 0) (suc n) (omega arith)) (sum_cong 𝓡 n _ _ (λ i l. e (suc (n - suc i)) (suc n + suc i) (omega arith) (omega arith) (omega arith)) ∙ sum_rev 𝓡 n (λ i. f (suc i))))
      ∙ step _ _ _
    where
      step : (x y z : R) → (x ⊕ z) ⊕ (y ⊕ z) ≡ (x ⊕ y) ⊕ (z ⊕ z)
      step x y z = ring 𝓡 (x ∷ y ∷ z ∷ []) (search quote depth 40 fits 9999) refl

  pub sum_mirror : (A : ℕ) (f : ℕ → R) → 0 < A → ((t u : ℕ) → 0 < t → A < u → u + t ≡ 2 * A → f u ≡ f t) → sum 𝓞 (2 * A) f ≡ sum 𝓞 (suc A) (λ w. doubled 𝓞 (between A w) (f w))
  sum_mirror zero f p e = absurd (omega arith)
  sum_mirror (suc n) f p e = whole_ends n f e ∙ sym (both_ends n f)

  -- its two halves are the same
  pub sum_twice : (A : ℕ) (f : ℕ → R) → ((t : ℕ) → t < A → f (A + t) ≡ f t) → sum 𝓞 (2 * A) f ≡ sum 𝓞 A (λ w. doubled 𝓞 true (f w))
  sum_twice A f e = along (λ k. sum 𝓞 k f) (2 * A) (A + A) (omega arith) ∙ sum_append 𝓡 A A f ∙ ap (λ y. sum 𝓞 A f ⊕ y) (sum_cong 𝓡 A _ _ e) ∙ sym (doubled_sum true A f)

  -- over all indices, in any order of an axis
  pub sum_flip : (b : Bool) (a : ℕ) (f : ℕ → R) → sum 𝓞 (2 * a) (λ h. f (flip b a h)) ≡ sum 𝓞 (2 * a) f
  unfolding flip neg_i
  sum_flip false a f = refl
  sum_flip true a f = sum_neg_mod 𝓡 (2 * a) f

  pub sum_shifted : (b : Bool) (a : ℕ) (f : ℕ → R) → sum 𝓞 (2 * a) (λ x. f (shifted b a x)) ≡ sum 𝓞 (2 * a) f
  unfolding shifted half_i
  sum_shifted false a f = refl
  sum_shifted true a f = sum_shift_mod 𝓡 (2 * a) a f
