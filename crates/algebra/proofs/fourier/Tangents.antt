-- The half tangents of an axis: their laws at both roots, and the cosecant and the cotangent that they give.
use mathlib.Core.Path.{◌≡◌, refl, sym, ◌∙◌, ap, ap₂}
use mathlib.Core.List.{[], ◌∷◌}
use Prim.Native.Nat.{ℕ, ◌<◌, ◌-◌}
use native.Mathlib.Omega.{arith}
use Rattle.algebra.specs.ring.Ring.{Ops, pow}
use Rattle.algebra.specs.ring.RingLaws.{CRing, Star}
use Rattle.algebra.specs.fourier.Axis.{Axis, AxisLaws}
use Rattle.algebra.proofs.ring.Laws.{pow_add, neg_mul}
use Rattle.algebra.proofs.ring.Solver.{ring, quote, linear}
use Rattle.algebra.proofs.ring.Conj.{conj_pow}
use native.Mathlib.Nat as N
use Rattle.algebra.specs.lines.Folds.{csc as csc-of, cot as cot-of}
use Rattle.algebra.proofs.fourier.Axis.{pow_inverse}
use Rattle.algebra.proofs.lines.Parts.{conj_half}

module _ {R : Type 0} {𝓞 : Ops R} {conj : R → R} {i : R} (𝓡 : CRing 𝓞) (𝓢 : Star 𝓞 conj i) {half : R} {axis : Axis R} {tau : ℕ → R} (𝓐 : AxisLaws 𝓞 conj i half axis tau) where
  open 𝓞 use {add as ◌⊕◌, mul as ◌⊗◌, neg as ⊖◌, zer as 𝟘, one as 𝟙}
  open 𝓡 use {mul_assoc}
  open 𝓢 use {conj_add, conj_mul, conj_neg, conj_one, i_square, conj_i}
  open axis use {half as A, w}
  open 𝓐 use {root, turn, halves, tan}

  infixl 65 ◌⊕◌
  infixl 70 ◌⊗◌
  infix 75 ⊖◌
  -- i tau (1 + w^s) = w^s - 1, and the same with the other root: -i tau (1 + w'^s) = w'^s - 1
  pub tan_up : (s : ℕ) → 0 < s → s < A → i ⊗ tau s ⊗ (𝟙 ⊕ pow 𝓞 w s) ≡ pow 𝓞 w s ⊕ ⊖ 𝟙
  tan_up s p l = step i (tau s) (pow 𝓞 w s) (tan s p l)
    where
      step : (i t e : R) → (𝟙 ⊕ ⊖ (i ⊗ t)) ⊗ (𝟙 ⊕ e) ≡ 𝟙 ⊕ 𝟙 → i ⊗ t ⊗ (𝟙 ⊕ e) ≡ e ⊕ ⊖ 𝟙
      step i t e h = linear 𝓡 h (⊖ 𝟙) (ring 𝓡 (i ∷ t ∷ e ∷ []) (search quote depth 40 fits 9999) refl)

  pub tan_down : (s : ℕ) → 0 < s → s < A → ⊖ (i ⊗ tau s) ⊗ (𝟙 ⊕ pow 𝓞 (conj w) s) ≡ pow 𝓞 (conj w) s ⊕ ⊖ 𝟙
  tan_down s p l = step (i ⊗ tau s) (pow 𝓞 w s) (pow 𝓞 (conj w) s) (tan_up s p l) (pow_inverse 𝓡 𝓢 𝓐 s)
    where
      step : (t e f : R) → t ⊗ (𝟙 ⊕ e) ≡ e ⊕ ⊖ 𝟙 → e ⊗ f ≡ 𝟙 → (⊖ t) ⊗ (𝟙 ⊕ f) ≡ f ⊕ ⊖ 𝟙
      step t e f h k = linear 𝓡 h (⊖ f) (linear 𝓡 k (t ⊕ ⊖ 𝟙) (ring 𝓡 (t ∷ e ∷ f ∷ []) (search quote depth 40 fits 9999) refl))

  -- 1 + w^s has an inverse
  below : (s : ℕ) → 0 < s → s < A → half ⊗ (𝟙 ⊕ ⊖ (i ⊗ tau s)) ⊗ (𝟙 ⊕ pow 𝓞 w s) ≡ 𝟙
  below s p l = mul_assoc _ _ _ ∙ ap (λ y. half ⊗ y) (tan s p l) ∙ halves

  pub tau_real : (s : ℕ) → 0 < s → s < A → conj (tau s) ≡ tau s
  tau_real s p l = step i (tau s) (conj (tau s)) (pow 𝓞 (conj w) s) (half ⊗ (𝟙 ⊕ i ⊗ tau s)) i_square (turned ∙ sym (tan_down s p l)) unit
    where
      -- the law, conjugated
      turned : ⊖ (i ⊗ conj (tau s)) ⊗ (𝟙 ⊕ pow 𝓞 (conj w) s) ≡ pow 𝓞 (conj w) s ⊕ ⊖ 𝟙
      turned = rw (← conj_pow 𝓡 𝓢 w s) (sym (conj_mul _ _ ∙ ap₂ ◌⊗◌ (conj_mul _ _ ∙ ap (λ y. y ⊗ conj (tau s)) conj_i ∙ neg_mul 𝓡 _ _) (conj_add _ _ ∙ ap (λ y. y ⊕ conj (pow 𝓞 w s)) conj_one)) ∙ ap conj (tan_up s p l) ∙ conj_add _ _ ∙ ap (λ y. conj (pow 𝓞 w s) ⊕ y) (conj_neg 𝟙 ∙ ap ⊖◌ conj_one))

      unit : half ⊗ (𝟙 ⊕ i ⊗ tau s) ⊗ (𝟙 ⊕ pow 𝓞 (conj w) s) ≡ 𝟙
      unit = go half (i ⊗ tau s) (pow 𝓞 (conj w) s) (tan_down s p l) halves
        where
          go : (h t f : R) → (⊖ t) ⊗ (𝟙 ⊕ f) ≡ f ⊕ ⊖ 𝟙 → h ⊗ (𝟙 ⊕ 𝟙) ≡ 𝟙 → h ⊗ (𝟙 ⊕ t) ⊗ (𝟙 ⊕ f) ≡ 𝟙
          go h t f a b = linear 𝓡 a (⊖ h) (linear 𝓡 b 𝟙 (ring 𝓡 (h ∷ t ∷ f ∷ []) (search quote depth 40 fits 9999) refl))

      step : (i t c f u : R) → i ⊗ i ≡ ⊖ 𝟙 → ⊖ (i ⊗ c) ⊗ (𝟙 ⊕ f) ≡ ⊖ (i ⊗ t) ⊗ (𝟙 ⊕ f) → u ⊗ (𝟙 ⊕ f) ≡ 𝟙 → c ≡ t
      step i t c f u a b k = linear 𝓡 b (i ⊗ u) (linear 𝓡 a (u ⊗ (𝟙 ⊕ f) ⊗ (c ⊕ ⊖ t)) (linear 𝓡 k (t ⊕ ⊖ c) (ring 𝓡 (i ∷ t ∷ c ∷ f ∷ u ∷ []) (search quote depth 40 fits 9999) refl)))

  -- cosecant and cotangent out of two half tangents
  abbrev pub csc : ℕ → R
  csc s = csc-of 𝓞 half A tau s

  abbrev pub cot : ℕ → R
  cot s = cot-of 𝓞 half A tau s

  -- tau (1 + w^s) = i (1 - w^s)
  tan_one : (s : ℕ) → 0 < s → s < A → tau s ⊗ (𝟙 ⊕ pow 𝓞 w s) ≡ i ⊗ (𝟙 ⊕ ⊖ pow 𝓞 w s)
  tan_one s p l = step i (tau s) (pow 𝓞 w s) i_square (tan_up s p l)
    where
      step : (i t e : R) → i ⊗ i ≡ ⊖ 𝟙 → i ⊗ t ⊗ (𝟙 ⊕ e) ≡ e ⊕ ⊖ 𝟙 → t ⊗ (𝟙 ⊕ e) ≡ i ⊗ (𝟙 ⊕ ⊖ e)
      step i t e a b = linear 𝓡 b (⊖ i) (linear 𝓡 a (t ⊗ (𝟙 ⊕ e)) (ring 𝓡 (i ∷ t ∷ e ∷ []) (search quote depth 40 fits 9999) refl))

  -- tau' (w^s - 1) = i (1 + w^s)
  tan_two : (s : ℕ) → 0 < s → s < A → tau (A - s) ⊗ (pow 𝓞 w s ⊕ ⊖ 𝟙) ≡ i ⊗ (𝟙 ⊕ pow 𝓞 w s)
  tan_two s p l = step i (tau (A - s)) (pow 𝓞 w s) (pow 𝓞 w (A - s)) (tan_one (A - s) (omega arith) (omega arith)) (sym (pow_add 𝓡 w s (A - s)) ∙ ap (pow 𝓞 w) (N.add-sub_of_le (omega arith)) ∙ turn)
    where
      -- e g = -1
      step : (i t e g : R) → t ⊗ (𝟙 ⊕ g) ≡ i ⊗ (𝟙 ⊕ ⊖ g) → e ⊗ g ≡ ⊖ 𝟙 → t ⊗ (e ⊕ ⊖ 𝟙) ≡ i ⊗ (𝟙 ⊕ e)
      step i t e g a b = linear 𝓡 a e (linear 𝓡 b (⊖ (t ⊕ i)) (ring 𝓡 (i ∷ t ∷ e ∷ g ∷ []) (search quote depth 40 fits 9999) refl))

  -- i d csc = i, with i d = (w^s - w'^s)/2; and cot = c csc, with c = (w^s + w'^s)/2
  pub csc_law : (s : ℕ) → 0 < s → s < A → half ⊗ (pow 𝓞 w s ⊕ ⊖ pow 𝓞 (conj w) s) ⊗ csc s ≡ i
  unfolding csc-of
  csc_law s p l = step i half (tau s) (tau (A - s)) (pow 𝓞 w s) (pow 𝓞 (conj w) s) (tan_one s p l) (tan_two s p l) (pow_inverse 𝓡 𝓢 𝓐 s) halves
    where
      step : (i h t v e f : R) → t ⊗ (𝟙 ⊕ e) ≡ i ⊗ (𝟙 ⊕ ⊖ e) → v ⊗ (e ⊕ ⊖ 𝟙) ≡ i ⊗ (𝟙 ⊕ e) → e ⊗ f ≡ 𝟙 → h ⊗ (𝟙 ⊕ 𝟙) ≡ 𝟙 → h ⊗ (e ⊕ ⊖ f) ⊗ (h ⊗ (t ⊕ v)) ≡ i
      step i h t v e f a b c d = linear 𝓡 a (h ⊗ h ⊗ f ⊗ (e ⊕ ⊖ 𝟙)) (linear 𝓡 b (h ⊗ h ⊗ f ⊗ (𝟙 ⊕ e)) (linear 𝓡 c (h ⊗ h ⊗ ((𝟙 ⊕ 𝟙) ⊗ (𝟙 ⊕ 𝟙) ⊗ i ⊕ ⊖ ((t ⊕ v) ⊗ e))) (linear 𝓡 d (i ⊗ (h ⊗ (𝟙 ⊕ 𝟙) ⊕ 𝟙)) (ring 𝓡 (i ∷ h ∷ t ∷ v ∷ e ∷ f ∷ []) (search quote depth 40 fits 9999) refl))))

  pub cot_law : (s : ℕ) → 0 < s → s < A → cot s ≡ half ⊗ (pow 𝓞 w s ⊕ pow 𝓞 (conj w) s) ⊗ csc s
  unfolding csc-of cot-of
  cot_law s p l = step i half (tau s) (tau (A - s)) (pow 𝓞 w s) (pow 𝓞 (conj w) s) (tan_one s p l) (tan_two s p l) (pow_inverse 𝓡 𝓢 𝓐 s) halves
    where
      step : (i h t v e f : R) → t ⊗ (𝟙 ⊕ e) ≡ i ⊗ (𝟙 ⊕ ⊖ e) → v ⊗ (e ⊕ ⊖ 𝟙) ≡ i ⊗ (𝟙 ⊕ e) → e ⊗ f ≡ 𝟙 → h ⊗ (𝟙 ⊕ 𝟙) ≡ 𝟙 → h ⊗ (v ⊕ ⊖ t) ≡ h ⊗ (e ⊕ f) ⊗ (h ⊗ (t ⊕ v))
      step i h t v e f a b c d = linear 𝓡 a (⊖ (h ⊗ h ⊗ f ⊗ (𝟙 ⊕ e))) (linear 𝓡 b (⊖ (h ⊗ h ⊗ f ⊗ (e ⊕ ⊖ 𝟙))) (linear 𝓡 c (h ⊗ h ⊗ (e ⊗ (t ⊕ v) ⊕ ⊖ ((𝟙 ⊕ 𝟙) ⊗ (v ⊕ ⊖ t)))) (linear 𝓡 d (⊖ (h ⊗ (v ⊕ ⊖ t))) (ring 𝓡 (i ∷ h ∷ t ∷ v ∷ e ∷ f ∷ []) (search quote depth 40 fits 9999) refl))))

  pub csc_real : (s : ℕ) → 0 < s → s < A → conj (csc s) ≡ csc s
  unfolding csc-of
  csc_real s p l = conj_mul _ _ ∙ ap₂ ◌⊗◌ (conj_half 𝓡 𝓢 half halves) (conj_add _ _ ∙ ap₂ ◌⊕◌ (tau_real s p l) (tau_real (A - s) (omega arith) (omega arith)))

  pub cot_real : (s : ℕ) → 0 < s → s < A → conj (cot s) ≡ cot s
  unfolding cot-of
  cot_real s p l = conj_mul _ _ ∙ ap₂ ◌⊗◌ (conj_half 𝓡 𝓢 half halves) (conj_add _ _ ∙ ap₂ ◌⊕◌ (tau_real (A - s) (omega arith) (omega arith)) (conj_neg _ ∙ ap ⊖◌ (tau_real s p l)))
