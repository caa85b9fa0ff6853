-- Real and imaginary parts, with 1/2 and i in any ring with a conjugation; and what they are over R[i].
use mathlib.Core.Path.{◌≡◌, refl, sym, ◌∙◌, ap, ap₂}
use mathlib.Core.List.{[], ◌∷◌}
use Prim.Native.Nat.{ℕ, zero, suc}
use Rattle.algebra.specs.ring.Ring.{Ops, sum, gauss, conj as conjG, imag}
use Rattle.algebra.specs.ring.RingLaws.{CRing, Star}
use Rattle.algebra.specs.lines.Kinds.{re, im}
use Rattle.algebra.proofs.ring.Laws.{inverse_unique, neg_mul, self_neg}
use Rattle.algebra.proofs.ring.Solver.{ring, quote, linear}
use Rattle.algebra.proofs.ring.Conj.{conj_zero}
use Rattle.algebra.proofs.ring.Paths.{pair}

module _ {R : Type 0} {𝓞 : Ops R} {conj : R → R} {i : R} (𝓡 : CRing 𝓞) (𝓢 : Star 𝓞 conj i) where
  open 𝓞 use {add as ◌⊕◌, mul as ◌⊗◌, neg as ⊖◌, zer as 𝟘, one as 𝟙}
  open 𝓡 use {add_comm, zero_add}
  open 𝓢 use {conj_add, conj_mul, conj_neg, conj_one, conj_conj, i_square, conj_i}

  infixl 65 ◌⊕◌
  infixl 70 ◌⊗◌
  infix 75 ⊖◌
  module _ (half : R) (halves : half ⊗ (𝟙 ⊕ 𝟙) ≡ 𝟙) where
    pub conj_half : conj half ≡ half
    conj_half = inverse_unique 𝓡 _ (𝟙 ⊕ 𝟙) _ (ap (λ y. conj half ⊗ y) (sym (conj_add 𝟙 𝟙 ∙ ap₂ ◌⊕◌ conj_one conj_one)) ∙ sym (conj_mul half _) ∙ ap conj halves ∙ conj_one) halves

    pub re_real : (z : R) → conj (re 𝓞 conj i half z) ≡ re 𝓞 conj i half z
    unfolding re
    re_real z = conj_mul _ _ ∙ ap₂ ◌⊗◌ conj_half (conj_add _ _ ∙ ap (λ y. conj z ⊕ y) (conj_conj z) ∙ add_comm _ _)

    pub im_real : (z : R) → conj (im 𝓞 conj i half z) ≡ im 𝓞 conj i half z
    unfolding im
    im_real z = simp (conj_neg, conj_mul, conj_add, conj_half, conj_i, conj_conj) (step half i z (conj z))
      where
        step : (h i z c : R) → ⊖ (h ⊗ ((⊖ i) ⊗ (c ⊕ ⊖ z))) ≡ ⊖ (h ⊗ (i ⊗ (z ⊕ ⊖ c)))
        step h i z c = ring 𝓡 (h ∷ i ∷ z ∷ c ∷ []) (search quote depth 40 fits 9999) refl

    -- z = re z + i im z
    pub parts : (z : R) → re 𝓞 conj i half z ⊕ i ⊗ im 𝓞 conj i half z ≡ z
    unfolding re im
    parts z = step half i z (conj z) halves i_square
      where
        step : (h i z c : R) → h ⊗ (𝟙 ⊕ 𝟙) ≡ 𝟙 → i ⊗ i ≡ ⊖ 𝟙 → h ⊗ (z ⊕ c) ⊕ i ⊗ ⊖ (h ⊗ (i ⊗ (z ⊕ ⊖ c))) ≡ z
        step h i z c a b = linear 𝓡 b (⊖ (h ⊗ (z ⊕ ⊖ c))) (linear 𝓡 a z (ring 𝓡 (h ∷ i ∷ z ∷ c ∷ []) (search quote depth 40 fits 9999) refl))

    pub parts_conj : (z : R) → re 𝓞 conj i half z ⊕ ⊖ (i ⊗ im 𝓞 conj i half z) ≡ conj z
    unfolding re im
    parts_conj z = step half i z (conj z) halves i_square
      where
        step : (h i z c : R) → h ⊗ (𝟙 ⊕ 𝟙) ≡ 𝟙 → i ⊗ i ≡ ⊖ 𝟙 → h ⊗ (z ⊕ c) ⊕ ⊖ (i ⊗ ⊖ (h ⊗ (i ⊗ (z ⊕ ⊖ c)))) ≡ c
        step h i z c a b = linear 𝓡 b (h ⊗ (z ⊕ ⊖ c)) (linear 𝓡 a c (ring 𝓡 (h ∷ i ∷ z ∷ c ∷ []) (search quote depth 40 fits 9999) refl))

    -- the parts of x + i y, x and y real
    module _ (x y : R) (rx : conj x ≡ x) (ry : conj y ≡ y) where
      pub conj_pair : conj (x ⊕ i ⊗ y) ≡ x ⊕ ⊖ (i ⊗ y)
      conj_pair = conj_add _ _ ∙ ap₂ ◌⊕◌ rx (conj_mul _ _ ∙ ap₂ ◌⊗◌ conj_i ry ∙ neg_mul 𝓡 i y)

      pub re_pair : re 𝓞 conj i half (x ⊕ i ⊗ y) ≡ x
      unfolding re
      re_pair = ap (λ c. half ⊗ (x ⊕ i ⊗ y ⊕ c)) conj_pair ∙ step half i x y halves
        where
          step : (h i x y : R) → h ⊗ (𝟙 ⊕ 𝟙) ≡ 𝟙 → h ⊗ (x ⊕ i ⊗ y ⊕ (x ⊕ ⊖ (i ⊗ y))) ≡ x
          step h i x y a = linear 𝓡 a x (ring 𝓡 (h ∷ i ∷ x ∷ y ∷ []) (search quote depth 40 fits 9999) refl)

      pub im_pair : im 𝓞 conj i half (x ⊕ i ⊗ y) ≡ y
      unfolding im
      im_pair = ap (λ c. ⊖ (half ⊗ (i ⊗ (x ⊕ i ⊗ y ⊕ ⊖ c)))) conj_pair ∙ step half i x y halves i_square
        where
          step : (h i x y : R) → h ⊗ (𝟙 ⊕ 𝟙) ≡ 𝟙 → i ⊗ i ≡ ⊖ 𝟙 → ⊖ (h ⊗ (i ⊗ (x ⊕ i ⊗ y ⊕ ⊖ (x ⊕ ⊖ (i ⊗ y))))) ≡ y
          step h i x y a b = linear 𝓡 b (⊖ (h ⊗ (y ⊗ (𝟙 ⊕ 𝟙)))) (linear 𝓡 a y (ring 𝓡 (h ∷ i ∷ x ∷ y ∷ []) (search quote depth 40 fits 9999) refl))

    -- im (i x) = x for real x
    pub im_turn : (x : R) → conj x ≡ x → im 𝓞 conj i half (i ⊗ x) ≡ x
    im_turn x r = ap (im 𝓞 conj i half) (sym (zero_add _)) ∙ im_pair 𝟘 x (conj_zero 𝓡 𝓢) r

    -- the sum of the imaginary parts
    im_zero : im 𝓞 conj i half 𝟘 ≡ 𝟘
    unfolding im
    im_zero = ap (λ y. ⊖ (half ⊗ (i ⊗ (𝟘 ⊕ ⊖ y)))) (conj_zero 𝓡 𝓢) ∙ step half i
      where
        step : (h i : R) → ⊖ (h ⊗ (i ⊗ (𝟘 ⊕ ⊖ 𝟘))) ≡ 𝟘
        step h i = ring 𝓡 (h ∷ i ∷ []) (search quote depth 40 fits 9999) refl

    im_add : (a b : R) → im 𝓞 conj i half (a ⊕ b) ≡ im 𝓞 conj i half a ⊕ im 𝓞 conj i half b
    unfolding im
    im_add a b = ap (λ y. ⊖ (half ⊗ (i ⊗ (a ⊕ b ⊕ ⊖ y)))) (conj_add a b) ∙ step half i a b (conj a) (conj b)
      where
        step : (h i a b c d : R) → ⊖ (h ⊗ (i ⊗ (a ⊕ b ⊕ ⊖ (c ⊕ d)))) ≡ ⊖ (h ⊗ (i ⊗ (a ⊕ ⊖ c))) ⊕ ⊖ (h ⊗ (i ⊗ (b ⊕ ⊖ d)))
        step h i a b c d = ring 𝓡 (h ∷ i ∷ a ∷ b ∷ c ∷ d ∷ []) (search quote depth 40 fits 9999) refl

    pub im_sum_lem : (n : ℕ) (f : ℕ → R) → sum 𝓞 n (λ t. im 𝓞 conj i half (f t)) ≡ im 𝓞 conj i half (sum 𝓞 n f)
    unfolding sum
    im_sum_lem zero f = sym im_zero
    im_sum_lem (suc n) f = ap (λ y. y ⊕ im 𝓞 conj i half (f n)) (im_sum_lem n f) ∙ sym (im_add _ _)

    -- an imaginary value
    pub imaginary : (z : R) → conj z ≡ ⊖ z → i ⊗ im 𝓞 conj i half z ≡ z
    unfolding im
    imaginary z r = ap (λ c. i ⊗ ⊖ (half ⊗ (i ⊗ (z ⊕ ⊖ c)))) r ∙ step half i z halves i_square
      where
        step : (h i z : R) → h ⊗ (𝟙 ⊕ 𝟙) ≡ 𝟙 → i ⊗ i ≡ ⊖ 𝟙 → i ⊗ ⊖ (h ⊗ (i ⊗ (z ⊕ ⊖ ⊖ z))) ≡ z
        step h i z a b = linear 𝓡 b (⊖ (h ⊗ (𝟙 ⊕ 𝟙) ⊗ z)) (linear 𝓡 a z (ring 𝓡 (h ∷ i ∷ z ∷ []) (search quote depth 40 fits 9999) refl))

-- Over R[i].
module _ {R : Type 0} {𝓞 : Ops R} (𝓡 : CRing 𝓞) (h : R) (halves : 𝓞.mul h (𝓞.add 𝓞.one 𝓞.one) ≡ 𝓞.one) where
  open 𝓞 use {add as ◌⊕◌, mul as ◌⊗◌, neg as ⊖◌, zer as 𝟘, one as 𝟙}

  infixl 65 ◌⊕◌
  infixl 70 ◌⊗◌
  infix 75 ⊖◌
  pub half_gauss : (gauss 𝓞).mul (h, 𝟘) ((gauss 𝓞).add (gauss 𝓞).one (gauss 𝓞).one) ≡ (gauss 𝓞).one
  unfolding gauss
  half_gauss = pair (linear 𝓡 halves 𝟙 (ring 𝓡 (h ∷ []) (search quote depth 40 fits 9999) refl)) (ring 𝓡 (h ∷ []) (search quote depth 40 fits 9999) refl)

  pub re_gauss : (z : R × R) → re (gauss 𝓞) (conjG 𝓞) (imag 𝓞) (h, 𝟘) z ≡ (z.0, 𝟘)
  unfolding gauss conjG imag re
  re_gauss z = pair (linear 𝓡 halves z.0 (ring 𝓡 (h ∷ z.0 ∷ z.1 ∷ []) (search quote depth 40 fits 9999) refl)) (ring 𝓡 (h ∷ z.0 ∷ z.1 ∷ []) (search quote depth 40 fits 9999) refl)

  pub im_gauss : (z : R × R) → im (gauss 𝓞) (conjG 𝓞) (imag 𝓞) (h, 𝟘) z ≡ (z.1, 𝟘)
  unfolding gauss conjG imag im
  im_gauss z = pair (linear 𝓡 halves z.1 (ring 𝓡 (h ∷ z.0 ∷ z.1 ∷ []) (search quote depth 40 fits 9999) refl)) (ring 𝓡 (h ∷ z.0 ∷ z.1 ∷ []) (search quote depth 40 fits 9999) refl)

  -- real: no imaginary part
  pub real_gauss : (z : R × R) → conjG 𝓞 z ≡ z → z.1 ≡ 𝟘
  unfolding conjG
  real_gauss z r = self_neg 𝓡 h halves z.1 (sym (ap (λ y. y.1) r))

  -- two real values as one
  pub reals_in : (x y : R × R) → conjG 𝓞 x ≡ x → conjG 𝓞 y ≡ y → (gauss 𝓞).add x ((gauss 𝓞).mul (imag 𝓞) y) ≡ (x.0, y.0)
  unfolding gauss imag
  reals_in x y rx ry =
      ap₂ (λ u v. (gauss 𝓞).add (x.0, u) ((gauss 𝓞).mul (imag 𝓞) (y.0, v))) (real_gauss x rx) (real_gauss y ry)
      ∙ pair (ring 𝓡 (x.0 ∷ y.0 ∷ []) (search quote depth 40 fits 9999) refl) (ring 𝓡 (x.0 ∷ y.0 ∷ []) (search quote depth 40 fits 9999) refl)
