-- What a whole number is in a commutative ring goes with sums and products.
use mathlib.Core.Path.{◌≡◌, refl, sym, ◌∙◌, ap, ap₂}
use mathlib.Core.List.{[], ◌∷◌}
use Prim.Native.Nat.{ℕ, zero, suc}
use lib.IntN.{ℤ, pos, negsuc, neg_ℤ, suc_ℤ, pred_ℤ, ◌+ℤ◌, ◌*ℤ◌, +ℤ_idl, suc_ℤ-+ℤ, pred_ℤ-+ℤ, suc_ℤ-*ℤ, pred_ℤ-*ℤ, zero-*ℤ}
use Rattle.algebra.specs.ring.Ring.{Ops, sum}
use Rattle.algebra.specs.fourier.Axis.{cast}
use Rattle.algebra.specs.ring.RingLaws.{CRing}
use Rattle.algebra.proofs.ring.Solver.{ring, quote}
use Rattle.signed.specs.IntegerRing.{integers, numeral}
use Rattle.signed.proofs.IntegerRing.{by_steps}

module _ {R : Type 0} {𝓞 : Ops R} (𝓡 : CRing 𝓞) where
  open 𝓞 use {add as ◌⊕◌, mul as ◌⊗◌, neg as ⊖◌, zer as 𝟘, one as 𝟙}

  infixl 65 ◌⊕◌
  infixl 70 ◌⊗◌
  infix 75 ⊖◌
  abbrev to : ℤ → R
  to k = numeral 𝓞 k

  zero_is : to (pos 0) ≡ 𝟘
  unfolding numeral cast
  zero_is = refl

  drop_one : (x : R) → 𝟘 ≡ 𝟙 ⊕ ⊖ (𝟙 ⊕ 𝟘)
  drop_one x = ring 𝓡 [] (search quote depth 40 fits 9999) refl

  suc_is : (k : ℤ) → to (suc_ℤ k) ≡ 𝟙 ⊕ to k
  unfolding numeral cast
  suc_is (pos n) = refl
  suc_is (negsuc zero) = drop_one 𝟙
  suc_is (negsuc (suc n)) = step (cast 𝓞 n)
    where
      step : (x : R) → ⊖ (𝟙 ⊕ x) ≡ 𝟙 ⊕ ⊖ (𝟙 ⊕ (𝟙 ⊕ x))
      step x = ring 𝓡 (x ∷ []) (search quote depth 40 fits 9999) refl

  pred_is : (k : ℤ) → to (pred_ℤ k) ≡ ⊖ 𝟙 ⊕ to k
  unfolding numeral cast
  pred_is (pos zero) = ring 𝓡 [] (search quote depth 40 fits 9999) refl
  pred_is (pos (suc n)) = step (cast 𝓞 n)
    where
      step : (x : R) → x ≡ ⊖ 𝟙 ⊕ (𝟙 ⊕ x)
      step x = ring 𝓡 (x ∷ []) (search quote depth 40 fits 9999) refl
  pred_is (negsuc n) = step (cast 𝓞 n)
    where
      step : (x : R) → ⊖ (𝟙 ⊕ (𝟙 ⊕ x)) ≡ ⊖ 𝟙 ⊕ ⊖ (𝟙 ⊕ x)
      step x = ring 𝓡 (x ∷ []) (search quote depth 40 fits 9999) refl

  pub to_add : (b a : ℤ) → to (a +ℤ b) ≡ to a ⊕ to b
  to_add b = by_steps (λ a. to (a +ℤ b) ≡ to a ⊕ to b)
      (ap (λ k. to k) (+ℤ_idl b) ∙ sym (𝓡.zero_add (to b)) ∙ ap (λ x. x ⊕ to b) (sym zero_is))
      (λ k e. ap (λ k. to k) (suc_ℤ-+ℤ k b) ∙ suc_is (k +ℤ b) ∙ ap (λ x. 𝟙 ⊕ x) e ∙ sym (𝓡.add_assoc 𝟙 (to k) (to b)) ∙ ap (λ x. x ⊕ to b) (sym (suc_is k)))
      (λ k e. ap (λ k. to k) (pred_ℤ-+ℤ k b) ∙ pred_is (k +ℤ b) ∙ ap (λ x. ⊖ 𝟙 ⊕ x) e ∙ sym (𝓡.add_assoc (⊖ 𝟙) (to k) (to b)) ∙ ap (λ x. x ⊕ to b) (sym (pred_is k)))

  neg_is : (k : ℤ) → to (neg_ℤ k) ≡ ⊖ to k
  unfolding numeral cast
  neg_is (pos zero) = ring 𝓡 [] (search quote depth 40 fits 9999) refl
  neg_is (pos (suc n)) = refl
  neg_is (negsuc n) = step (cast 𝓞 n)
    where
      step : (x : R) → 𝟙 ⊕ x ≡ ⊖ (⊖ (𝟙 ⊕ x))
      step x = ring 𝓡 (x ∷ []) (search quote depth 40 fits 9999) refl

  pub to_mul : (b a : ℤ) → to (a *ℤ b) ≡ to a ⊗ to b
  to_mul b = by_steps (λ a. to (a *ℤ b) ≡ to a ⊗ to b)
      (ap (λ k. to k) (zero-*ℤ b) ∙ zero_is ∙ none (to b) ∙ ap (λ x. x ⊗ to b) (sym zero_is))
      (λ k e. ap (λ k. to k) (suc_ℤ-*ℤ k b) ∙ to_add b (k *ℤ b) ∙ ap (λ x. x ⊕ to b) e ∙ more (to k) (to b) ∙ ap (λ x. x ⊗ to b) (sym (suc_is k)))
      (λ k e. ap (λ k. to k) (pred_ℤ-*ℤ k b) ∙ to_add (neg_ℤ b) (k *ℤ b) ∙ ap₂ ◌⊕◌ e (neg_is b) ∙ less (to k) (to b) ∙ ap (λ x. x ⊗ to b) (sym (pred_is k)))
    where
      none : (x : R) → 𝟘 ≡ 𝟘 ⊗ x
      none x = ring 𝓡 (x ∷ []) (search quote depth 40 fits 9999) refl

      more : (x y : R) → x ⊗ y ⊕ y ≡ (𝟙 ⊕ x) ⊗ y
      more x y = ring 𝓡 (x ∷ y ∷ []) (search quote depth 40 fits 9999) refl

      less : (x y : R) → x ⊗ y ⊕ ⊖ y ≡ (⊖ 𝟙 ⊕ x) ⊗ y
      less x y = ring 𝓡 (x ∷ y ∷ []) (search quote depth 40 fits 9999) refl

  pub to_sum : (n : ℕ) (f : ℕ → ℤ) → to (sum integers n f) ≡ sum 𝓞 n (λ i. to (f i))
  unfolding sum integers
  to_sum zero f = zero_is
  to_sum (suc n) f = to_add (f n) (sum integers n f) ∙ ap (λ x. x ⊕ to (f n)) (to_sum n f)
