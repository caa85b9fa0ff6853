-- The half tangents of a value w = c + d i on the circle: t = d/(1 + c) for w, and u = d/(1 - c) for -conj w.
use mathlib.Core.Path.{◌≡◌, refl, ap}
use mathlib.Core.List.{[], ◌∷◌}
use Rattle.algebra.specs.ring.Ring.{Ops, gauss, conj, imag}
use Rattle.algebra.specs.ring.RingLaws.{CRing}
use Rattle.algebra.proofs.ring.Solver.{ring, quote, linear}

module _ {R : Type 0} {𝓞 : Ops R} (𝓡 : CRing 𝓞) where
  open 𝓞 use {add as ◌⊕◌, mul as ◌⊗◌, neg as ⊖◌, zer as 𝟘, one as 𝟙}

  infixl 65 ◌⊕◌
  infixl 70 ◌⊗◌
  infix 75 ⊖◌
  -- c^2 + d^2 = 1
  pub circle_parts : (w : R × R) → (gauss 𝓞).mul w (conj 𝓞 w) ≡ (gauss 𝓞).one → w.0 ⊗ w.0 ⊕ w.1 ⊗ w.1 ≡ 𝟙
  unfolding gauss conj
  circle_parts (c, d) h = step c d (ap (λ z. z.0) h)
    where
      step : (c d : R) → c ⊗ c ⊕ ⊖ (d ⊗ ⊖ d) ≡ 𝟙 → c ⊗ c ⊕ d ⊗ d ≡ 𝟙
      step c d h = linear 𝓡 h 𝟙 (ring 𝓡 (c ∷ d ∷ []) (search quote depth 40 fits 9999) refl)

  -- the sine has an inverse where w^2 - 1 = 2 i d w has one
  pub sine_inverse : (w v : R × R) → w.0 ⊗ w.0 ⊕ w.1 ⊗ w.1 ≡ 𝟙
      → (gauss 𝓞).mul v ((gauss 𝓞).add ((gauss 𝓞).mul w w) ((gauss 𝓞).neg (gauss 𝓞).one)) ≡ (gauss 𝓞).one → (e : R) × (e ⊗ w.1 ≡ 𝟙)
  unfolding gauss
  sine_inverse (c, d) (x, y) circle away = (⊖ ((𝟙 ⊕ 𝟙) ⊗ (x ⊗ d ⊕ y ⊗ c)), step c d x y circle (ap (λ z. z.0) away))
    where
      step : (c d x y : R) → c ⊗ c ⊕ d ⊗ d ≡ 𝟙 → x ⊗ (c ⊗ c ⊕ ⊖ (d ⊗ d) ⊕ ⊖ 𝟙) ⊕ ⊖ (y ⊗ (c ⊗ d ⊕ d ⊗ c ⊕ ⊖ 𝟘)) ≡ 𝟙 → ⊖ ((𝟙 ⊕ 𝟙) ⊗ (x ⊗ d ⊕ y ⊗ c)) ⊗ d ≡ 𝟙
      step c d x y circle away = linear 𝓡 away 𝟙 (linear 𝓡 circle (⊖ x) (ring 𝓡 (c ∷ d ∷ x ∷ y ∷ []) (search quote depth 40 fits 9999) refl))

  module _ (c d e t u : R) (circle : c ⊗ c ⊕ d ⊗ d ≡ 𝟙) (unit : e ⊗ d ≡ 𝟙) (up : t ⊗ (𝟙 ⊕ c) ≡ d) (down : u ⊗ (𝟙 ⊕ ⊖ c) ≡ d) where
    pub tan_sine : t ⊗ d ≡ 𝟙 ⊕ ⊖ c
    tan_sine = linear 𝓡 circle (e ⊗ t) (linear 𝓡 up (e ⊗ (𝟙 ⊕ ⊖ c)) (linear 𝓡 unit (⊖ (t ⊗ d ⊕ ⊖ (𝟙 ⊕ ⊖ c))) (ring 𝓡 (c ∷ d ∷ e ∷ t ∷ []) (search quote depth 40 fits 9999) refl)))

    mirror_sine : u ⊗ d ≡ 𝟙 ⊕ c
    mirror_sine = linear 𝓡 circle (e ⊗ u) (linear 𝓡 down (e ⊗ (𝟙 ⊕ c)) (linear 𝓡 unit (⊖ (u ⊗ d ⊕ ⊖ (𝟙 ⊕ c))) (ring 𝓡 (c ∷ d ∷ e ∷ u ∷ []) (search quote depth 40 fits 9999) refl)))

    pub tan_mirror : t ⊗ u ≡ 𝟙
    tan_mirror = linear 𝓡 tan_sine (e ⊗ e ⊗ (u ⊗ d)) (linear 𝓡 mirror_sine (e ⊗ e ⊗ (𝟙 ⊕ ⊖ c)) (linear 𝓡 circle (⊖ (e ⊗ e)) (linear 𝓡 unit (⊖ ((e ⊗ d ⊕ 𝟙) ⊗ (t ⊗ u ⊕ ⊖ 𝟙))) (ring 𝓡 (c ∷ d ∷ e ∷ t ∷ u ∷ []) (search quote depth 40 fits 9999) refl))))

    module _ (half : R) (halves : half ⊗ (𝟙 ⊕ 𝟙) ≡ 𝟙) where
      pub tan_cosecant : half ⊗ (t ⊕ u) ⊗ d ≡ 𝟙
      tan_cosecant = linear 𝓡 tan_sine half (linear 𝓡 mirror_sine half (linear 𝓡 halves 𝟙 (ring 𝓡 (c ∷ d ∷ t ∷ u ∷ half ∷ []) (search quote depth 40 fits 9999) refl)))

      pub tan_cotangent : half ⊗ (u ⊕ ⊖ t) ⊗ d ≡ c
      tan_cotangent = linear 𝓡 tan_sine (⊖ half) (linear 𝓡 mirror_sine half (linear 𝓡 halves c (ring 𝓡 (c ∷ d ∷ t ∷ u ∷ half ∷ []) (search quote depth 40 fits 9999) refl)))

  -- (1 - i t)(1 + w) = 2
  pub tan_law : (c d t : R) → t ⊗ (𝟙 ⊕ c) ≡ d → t ⊗ d ≡ 𝟙 ⊕ ⊖ c →
      (gauss 𝓞).mul ((gauss 𝓞).add (gauss 𝓞).one ((gauss 𝓞).neg ((gauss 𝓞).mul (imag 𝓞) (t, 𝟘)))) ((gauss 𝓞).add (gauss 𝓞).one (c, d)) ≡ (gauss 𝓞).add (gauss 𝓞).one (gauss 𝓞).one
  unfolding gauss imag
  tan_law c d t up sine = λ j. (re j, im j)
    where
      re : (𝟙 ⊕ ⊖ (𝟘 ⊗ t ⊕ ⊖ (𝟙 ⊗ 𝟘))) ⊗ (𝟙 ⊕ c) ⊕ ⊖ ((𝟘 ⊕ ⊖ (𝟘 ⊗ 𝟘 ⊕ 𝟙 ⊗ t)) ⊗ (𝟘 ⊕ d)) ≡ 𝟙 ⊕ 𝟙
      re = linear 𝓡 sine 𝟙 (ring 𝓡 (c ∷ d ∷ t ∷ []) (search quote depth 40 fits 9999) refl)

      im : (𝟙 ⊕ ⊖ (𝟘 ⊗ t ⊕ ⊖ (𝟙 ⊗ 𝟘))) ⊗ (𝟘 ⊕ d) ⊕ (𝟘 ⊕ ⊖ (𝟘 ⊗ 𝟘 ⊕ 𝟙 ⊗ t)) ⊗ (𝟙 ⊕ c) ≡ 𝟘 ⊕ 𝟘
      im = linear 𝓡 up (⊖ 𝟙) (ring 𝓡 (c ∷ d ∷ t ∷ []) (search quote depth 40 fits 9999) refl)
