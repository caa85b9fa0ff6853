-- The outer sums of 2, 3, 4 and 5 values as butterflies have them: the powers of e(1/B) go round, and those of a conjugate pair share their products.
use mathlib.Core.Path.{◌≡◌, refl, sym, ◌∙◌, ap}
use mathlib.Core.List.{[], ◌∷◌}
use Prim.Native.Nat.{ℕ, ◌*◌, ◌/◌, ◌%◌}
use Rattle.algebra.specs.ring.Ring.{Ops, pow, sum}
use Rattle.algebra.specs.ring.RingLaws.{CRing}
use Rattle.algebra.proofs.ring.Solver.{ring, quote}
use Rattle.algebra.proofs.fourier.Sums.{sum_cong}
use Rattle.algebra.proofs.fourier.Transform.{pow_mul, pow_mod}
use Rattle.butterflies.specs.Equation3.{e, outer}

module _ {R : Type 0} {𝓞 : Ops R} (𝓡 : CRing 𝓞) where
  open 𝓞 use {add as ◌⊕◌, mul as ◌⊗◌, neg as ⊖◌, zer as 𝟘, one as 𝟙}

  infixl 65 ◌⊕◌
  infixl 70 ◌⊗◌
  infix 75 ⊖◌
  -- the factors are the powers of w = e(1/B) below B
  pub outer_powers : (W : R) (B : ℕ) (X : ℕ → R) (c : ℕ) → pow 𝓞 (pow 𝓞 W (2880 / B)) B ≡ 𝟙
      → outer 𝓞 W B X c ≡ sum 𝓞 B (λ b. pow 𝓞 (pow 𝓞 W (2880 / B)) (b * c % B) ⊗ X b)
  unfolding outer e
  outer_powers W B X c cycle = sum_cong 𝓡 B _ _ (λ b l. ap (λ y. y ⊗ X b) (pow_mul 𝓡 W (2880 / B) (b * c) ∙ sym (pow_mod 𝓡 (pow 𝓞 W (2880 / B)) B (b * c) cycle)))

  -- sums with their terms in order
  module _ (u x : ℕ → R) {a b : R} (e0 : u 0 ≡ a) (e1 : u 1 ≡ b) where
    weighed_2 : sum 𝓞 2 (λ k. u k ⊗ x k) ≡ 𝟘 ⊕ a ⊗ x 0 ⊕ b ⊗ x 1
    unfolding sum
    weighed_2 = λ j. 𝟘 ⊕ e0 j ⊗ x 0 ⊕ e1 j ⊗ x 1

    module _ {c : R} (e2 : u 2 ≡ c) where
      weighed_3 : sum 𝓞 3 (λ k. u k ⊗ x k) ≡ 𝟘 ⊕ a ⊗ x 0 ⊕ b ⊗ x 1 ⊕ c ⊗ x 2
      unfolding sum
      weighed_3 = λ j. 𝟘 ⊕ e0 j ⊗ x 0 ⊕ e1 j ⊗ x 1 ⊕ e2 j ⊗ x 2

      module _ {d : R} (e3 : u 3 ≡ d) where
        weighed_4 : sum 𝓞 4 (λ k. u k ⊗ x k) ≡ 𝟘 ⊕ a ⊗ x 0 ⊕ b ⊗ x 1 ⊕ c ⊗ x 2 ⊕ d ⊗ x 3
        unfolding sum
        weighed_4 = λ j. 𝟘 ⊕ e0 j ⊗ x 0 ⊕ e1 j ⊗ x 1 ⊕ e2 j ⊗ x 2 ⊕ e3 j ⊗ x 3

        weighed_5 : {f : R} → u 4 ≡ f → sum 𝓞 5 (λ k. u k ⊗ x k) ≡ 𝟘 ⊕ a ⊗ x 0 ⊕ b ⊗ x 1 ⊕ c ⊗ x 2 ⊕ d ⊗ x 3 ⊕ f ⊗ x 4
        unfolding sum
        weighed_5 e4 = λ j. 𝟘 ⊕ e0 j ⊗ x 0 ⊕ e1 j ⊗ x 1 ⊕ e2 j ⊗ x 2 ⊕ e3 j ⊗ x 3 ⊕ e4 j ⊗ x 4

  module _ (P X : ℕ → R) (h0 : P 0 ≡ 𝟙) where
    -- the powers 1 and -1
    module _ (h1 : P 1 ≡ ⊖ 𝟙) where
      pub two_0 : sum 𝓞 2 (λ b. P (b * 0 % 2) ⊗ X b) ≡ X 0 ⊕ X 1
      two_0 = weighed_2 (λ b. P (b * 0 % 2)) X h0 h0 ∙ ring 𝓡 (X 0 ∷ X 1 ∷ []) (search quote depth 40 fits 9999) refl

      pub two_1 : sum 𝓞 2 (λ b. P (b * 1 % 2) ⊗ X b) ≡ X 0 ⊕ ⊖ X 1
      two_1 = weighed_2 (λ b. P (b * 1 % 2)) X h0 h1 ∙ ring 𝓡 (X 0 ∷ X 1 ∷ []) (search quote depth 40 fits 9999) refl

    -- the powers 1, j, -1, -j
    module _ (j : R) (h1 : P 1 ≡ j) (h2 : P 2 ≡ ⊖ 𝟙) (h3 : P 3 ≡ ⊖ j) where
      pub four_0 : sum 𝓞 4 (λ b. P (b * 0 % 4) ⊗ X b) ≡ (X 0 ⊕ X 2) ⊕ (X 1 ⊕ X 3)
      four_0 = weighed_4 (λ b. P (b * 0 % 4)) X h0 h0 h0 h0 ∙ ring 𝓡 (X 0 ∷ X 1 ∷ X 2 ∷ X 3 ∷ []) (search quote depth 40 fits 9999) refl

      pub four_1 : sum 𝓞 4 (λ b. P (b * 1 % 4) ⊗ X b) ≡ (X 0 ⊕ ⊖ X 2) ⊕ j ⊗ (X 1 ⊕ ⊖ X 3)
      four_1 = weighed_4 (λ b. P (b * 1 % 4)) X h0 h1 h2 h3 ∙ ring 𝓡 (j ∷ X 0 ∷ X 1 ∷ X 2 ∷ X 3 ∷ []) (search quote depth 40 fits 9999) refl

      pub four_2 : sum 𝓞 4 (λ b. P (b * 2 % 4) ⊗ X b) ≡ (X 0 ⊕ X 2) ⊕ ⊖ (X 1 ⊕ X 3)
      four_2 = weighed_4 (λ b. P (b * 2 % 4)) X h0 h2 h0 h2 ∙ ring 𝓡 (X 0 ∷ X 1 ∷ X 2 ∷ X 3 ∷ []) (search quote depth 40 fits 9999) refl

      pub four_3 : sum 𝓞 4 (λ b. P (b * 3 % 4) ⊗ X b) ≡ (X 0 ⊕ ⊖ X 2) ⊕ ⊖ (j ⊗ (X 1 ⊕ ⊖ X 3))
      four_3 = weighed_4 (λ b. P (b * 3 % 4)) X h0 h3 h2 h1 ∙ ring 𝓡 (j ∷ X 0 ∷ X 1 ∷ X 2 ∷ X 3 ∷ []) (search quote depth 40 fits 9999) refl

    -- the powers 1, c + i s, c - i s
    module _ (i c s : R) (h1 : P 1 ≡ c ⊕ i ⊗ s) (h2 : P 2 ≡ c ⊕ ⊖ (i ⊗ s)) where
      pub three_0 : sum 𝓞 3 (λ b. P (b * 0 % 3) ⊗ X b) ≡ X 0 ⊕ (X 1 ⊕ X 2)
      three_0 = weighed_3 (λ b. P (b * 0 % 3)) X h0 h0 h0 ∙ ring 𝓡 (X 0 ∷ X 1 ∷ X 2 ∷ []) (search quote depth 40 fits 9999) refl

      pub three_1 : sum 𝓞 3 (λ b. P (b * 1 % 3) ⊗ X b) ≡ (X 0 ⊕ c ⊗ (X 1 ⊕ X 2)) ⊕ s ⊗ (i ⊗ (X 1 ⊕ ⊖ X 2))
      three_1 = weighed_3 (λ b. P (b * 1 % 3)) X h0 h1 h2 ∙ ring 𝓡 (i ∷ c ∷ s ∷ X 0 ∷ X 1 ∷ X 2 ∷ []) (search quote depth 40 fits 9999) refl

      pub three_2 : sum 𝓞 3 (λ b. P (b * 2 % 3) ⊗ X b) ≡ (X 0 ⊕ c ⊗ (X 1 ⊕ X 2)) ⊕ ⊖ (s ⊗ (i ⊗ (X 1 ⊕ ⊖ X 2)))
      three_2 = weighed_3 (λ b. P (b * 2 % 3)) X h0 h2 h1 ∙ ring 𝓡 (i ∷ c ∷ s ∷ X 0 ∷ X 1 ∷ X 2 ∷ []) (search quote depth 40 fits 9999) refl

    -- the powers 1, c + i s, d + i t, d - i t, c - i s
    module _ (i c s d t : R) (h1 : P 1 ≡ c ⊕ i ⊗ s) (h2 : P 2 ≡ d ⊕ i ⊗ t) (h3 : P 3 ≡ d ⊕ ⊖ (i ⊗ t)) (h4 : P 4 ≡ c ⊕ ⊖ (i ⊗ s)) where
      pub five_0 : sum 𝓞 5 (λ b. P (b * 0 % 5) ⊗ X b) ≡ X 0 ⊕ (X 1 ⊕ X 4) ⊕ (X 2 ⊕ X 3)
      five_0 = weighed_5 (λ b. P (b * 0 % 5)) X h0 h0 h0 h0 h0 ∙ ring 𝓡 (X 0 ∷ X 1 ∷ X 2 ∷ X 3 ∷ X 4 ∷ []) (search quote depth 40 fits 9999) refl

      pub five_1 : sum 𝓞 5 (λ b. P (b * 1 % 5) ⊗ X b) ≡ (X 0 ⊕ (c ⊗ (X 1 ⊕ X 4) ⊕ d ⊗ (X 2 ⊕ X 3))) ⊕ (s ⊗ (i ⊗ (X 1 ⊕ ⊖ X 4)) ⊕ t ⊗ (i ⊗ (X 2 ⊕ ⊖ X 3)))
      five_1 = weighed_5 (λ b. P (b * 1 % 5)) X h0 h1 h2 h3 h4 ∙ ring 𝓡 (i ∷ c ∷ s ∷ d ∷ t ∷ X 0 ∷ X 1 ∷ X 2 ∷ X 3 ∷ X 4 ∷ []) (search quote depth 40 fits 9999) refl

      pub five_2 : sum 𝓞 5 (λ b. P (b * 2 % 5) ⊗ X b) ≡ (X 0 ⊕ (d ⊗ (X 1 ⊕ X 4) ⊕ c ⊗ (X 3 ⊕ X 2))) ⊕ (t ⊗ (i ⊗ (X 1 ⊕ ⊖ X 4)) ⊕ s ⊗ (i ⊗ (X 3 ⊕ ⊖ X 2)))
      five_2 = weighed_5 (λ b. P (b * 2 % 5)) X h0 h2 h4 h1 h3 ∙ ring 𝓡 (i ∷ c ∷ s ∷ d ∷ t ∷ X 0 ∷ X 1 ∷ X 2 ∷ X 3 ∷ X 4 ∷ []) (search quote depth 40 fits 9999) refl

      pub five_3 : sum 𝓞 5 (λ b. P (b * 3 % 5) ⊗ X b) ≡ (X 0 ⊕ (d ⊗ (X 1 ⊕ X 4) ⊕ c ⊗ (X 3 ⊕ X 2))) ⊕ ⊖ (t ⊗ (i ⊗ (X 1 ⊕ ⊖ X 4)) ⊕ s ⊗ (i ⊗ (X 3 ⊕ ⊖ X 2)))
      five_3 = weighed_5 (λ b. P (b * 3 % 5)) X h0 h3 h1 h4 h2 ∙ ring 𝓡 (i ∷ c ∷ s ∷ d ∷ t ∷ X 0 ∷ X 1 ∷ X 2 ∷ X 3 ∷ X 4 ∷ []) (search quote depth 40 fits 9999) refl

      pub five_4 : sum 𝓞 5 (λ b. P (b * 4 % 5) ⊗ X b) ≡ (X 0 ⊕ (c ⊗ (X 1 ⊕ X 4) ⊕ d ⊗ (X 2 ⊕ X 3))) ⊕ ⊖ (s ⊗ (i ⊗ (X 1 ⊕ ⊖ X 4)) ⊕ t ⊗ (i ⊗ (X 2 ⊕ ⊖ X 3)))
      five_4 = weighed_5 (λ b. P (b * 4 % 5)) X h0 h4 h3 h2 h1 ∙ ring 𝓡 (i ∷ c ∷ s ∷ d ∷ t ∷ X 0 ∷ X 1 ∷ X 2 ∷ X 3 ∷ X 4 ∷ []) (search quote depth 40 fits 9999) refl
