-- Correlation: the sum over all points of A(u) B(u + s), of a real A, is N1 N2 N3 times the map over conj F_A × F_B, which is that over N1 N2 N3 conj F_A × F_B.
use mathlib.Core.Path.{◌≡◌, refl, sym as inv, ◌∙◌, ap, ap₂}
use mathlib.Core.List.{[], ◌∷◌}
use Prim.Native.Nat.{ℕ, ◌+◌, ◌*◌, ◌%◌, ◌<◌}
use native.Mathlib.Nat as N
use native.Mathlib.Omega.{arith}
use Rattle.algebra.specs.ring.Ring.{Ops, sum, pow}
use Rattle.algebra.specs.fourier.Axis.{cast, Axis, AxisLaws}
use Rattle.algebra.specs.ring.RingLaws.{CRing, Star}
use Rattle.algebra.specs.cells.Cell.{Cell, map_of, factors_of}
use Rattle.algebra.specs.cells.CellSteps.{total}
use Rattle.algebra.proofs.ring.Laws.{along, cast_mul, pow_add}
use Rattle.algebra.proofs.ring.Solver.{ring, quote}
use Rattle.algebra.proofs.fourier.Sums.{sum_cong, sum_mul}
use Rattle.algebra.proofs.fourier.Transform.{pow_mul, pow_mod}
use Rattle.algebra.proofs.cells.CellMap.{map_nested, map_factors}
use Rattle.algebra.proofs.cells.CellPower.{over_roots, over_inverses, product, conj_map}

module _ {R : Type 0} {𝓞 : Ops R} (𝓡 : CRing 𝓞) where
  open 𝓞 use {mul as ◌⊗◌, one as 𝟙}

  infixl 70 ◌⊗◌
  -- e(h(x + s)/n), going round
  phase_at : (u : R) (n h x s : ℕ) → pow 𝓞 u n ≡ 𝟙 → pow 𝓞 u (h * ((x + s) % n)) ≡ pow 𝓞 u (h * s) ⊗ pow 𝓞 u (h * x)
  phase_at u n h x s e =
      along (pow 𝓞 u) (h * ((x + s) % n)) ((x + s) % n * h) (N.mul_comm h ((x + s) % n)) ∙ pow_mul 𝓡 u ((x + s) % n) h ∙ ap (λ y. pow 𝓞 y h) (pow_mod 𝓡 u n (x + s) e) ∙ inv (pow_mul 𝓡 u (x + s) h)
      ∙ along (pow 𝓞 u) ((x + s) * h) (h * s + h * x) (omega arith) ∙ pow_add 𝓡 u (h * s) (h * x)

module _ {R : Type 0} {𝓞 : Ops R} {conj : R → R} {i : R} (𝓡 : CRing 𝓞) (𝓢 : Star 𝓞 conj i) {half : R} {X Y Z : Axis R} {tx ty tz : ℕ → R} (𝓧 : AxisLaws 𝓞 conj i half X tx) (𝓨 : AxisLaws 𝓞 conj i half Y ty) (𝓩 : AxisLaws 𝓞 conj i half Z tz) where
  open 𝓞 use {add as ◌⊕◌, mul as ◌⊗◌, neg as ⊖◌, zer as 𝟘, one as 𝟙}
  open X use {half as a, w as u}
  open Y use {half as b, w as v}
  open Z use {half as c, w as w}

  infixl 70 ◌⊗◌
  -- F with the phase of a shift
  phased : (s t r : ℕ) → Cell R → Cell R
  phased s t r F h k l = F h k l ⊗ (pow 𝓞 u (h * s) ⊗ (pow 𝓞 v (k * t) ⊗ pow 𝓞 w (l * r)))

  module _ (s t r : ℕ) where
    -- the shifted map is the map over the phased factors
    shifted : (F : Cell R) (x y z : ℕ) → map_of 𝓞 X Y Z F ((x + s) % (2 * a)) ((y + t) % (2 * b)) ((z + r) % (2 * c)) ≡ map_of 𝓞 X Y Z (phased s t r F) x y z
    unfolding map_of phased
    shifted F x y z = sum_cong 𝓡 (2 * a) _ _ (λ h ha. sum_cong 𝓡 (2 * b) _ _ (λ k kb. sum_cong 𝓡 (2 * c) _ _ (λ l lc. term h k l)))
      where
        move : (f p q p' q' p'' q'' : R) → f ⊗ (p ⊗ q) ⊗ (p' ⊗ q') ⊗ (p'' ⊗ q'') ≡ f ⊗ (p ⊗ (p' ⊗ p'')) ⊗ q ⊗ q' ⊗ q''
        move f p q p' q' p'' q'' = ring 𝓡 (f ∷ p ∷ q ∷ p' ∷ q' ∷ p'' ∷ q'' ∷ []) (search quote depth 40 fits 9999) refl

        term : (h k l : ℕ) → F h k l ⊗ pow 𝓞 u (h * ((x + s) % (2 * a))) ⊗ pow 𝓞 v (k * ((y + t) % (2 * b))) ⊗ pow 𝓞 w (l * ((z + r) % (2 * c)))
            ≡ F h k l ⊗ (pow 𝓞 u (h * s) ⊗ (pow 𝓞 v (k * t) ⊗ pow 𝓞 w (l * r))) ⊗ pow 𝓞 u (h * x) ⊗ pow 𝓞 v (k * y) ⊗ pow 𝓞 w (l * z)
        term h k l =
            (λ q. F h k l ⊗ phase_at 𝓡 u (2 * a) h x s 𝓧.root.cycle q ⊗ phase_at 𝓡 v (2 * b) k y t 𝓨.root.cycle q ⊗ phase_at 𝓡 w (2 * c) l z r 𝓩.root.cycle q)
            ∙ move _ _ _ _ _ _ _

    -- the map over a product of factors at s, as a sum over the phased ones
    terms : (FA FB : Cell R) → map_of 𝓞 X Y Z (λ h k l. FA h k l ⊗ FB h k l) s t r ≡ sum 𝓞 (2 * a) (λ h. sum 𝓞 (2 * b) (λ k. sum 𝓞 (2 * c) (λ l. phased s t r FB h k l ⊗ FA h k l)))
    unfolding map_of phased
    terms FA FB = sum_cong 𝓡 (2 * a) _ _ (λ h ha. sum_cong 𝓡 (2 * b) _ _ (λ k kb. sum_cong 𝓡 (2 * c) _ _ (λ l lc. move _ _ _ _ _)))
      where
        move : (g f p q r : R) → g ⊗ f ⊗ p ⊗ q ⊗ r ≡ f ⊗ (p ⊗ (q ⊗ r)) ⊗ g
        move g f p q r = ring 𝓡 (g ∷ f ∷ p ∷ q ∷ r ∷ []) (search quote depth 40 fits 9999) refl

    -- the sum over all points of A(u) B(u + s)
    pub correlation : (A B : Cell R) → ((x y z : ℕ) → x < 2 * a → y < 2 * b → z < 2 * c → conj (A x y z) ≡ A x y z) →
        total 𝓞 X Y Z (λ x y z. A x y z ⊗ B ((x + s) % (2 * a)) ((y + t) % (2 * b)) ((z + r) % (2 * c)))
        ≡ cast 𝓞 (2 * a * (2 * b) * (2 * c)) ⊗ map_of 𝓞 X Y Z (λ h k l. conj (factors_of 𝓞 conj X Y Z A h k l) ⊗ factors_of 𝓞 conj X Y Z B h k l) s t r
    unfolding total
    correlation A B real =
        sum_cong 𝓡 (2 * a) _ _ (λ x xa. sum_cong 𝓡 (2 * b) _ _ (λ y yb. sum_cong 𝓡 (2 * c) _ _ (λ z zc. point x y z xa yb zc)))
        ∙ product 𝓡 𝓢 𝓧 𝓨 𝓩 (phased s t r FB) (λ h k l. conj (FA h k l))
        ∙ inv (ap (λ q. q ⊗ map_of 𝓞 X Y Z (λ h k l. conj (FA h k l) ⊗ FB h k l) s t r) (cast_mul 𝓡 (2 * a * (2 * b)) (2 * c) ∙ ap (λ q. q ⊗ cast 𝓞 (2 * c)) (cast_mul 𝓡 (2 * a) (2 * b))) ∙ step _ _ _ _ ∙ ap (λ q. cast 𝓞 (2 * a) ⊗ (cast 𝓞 (2 * b) ⊗ (cast 𝓞 (2 * c) ⊗ q))) (terms (λ h k l. conj (FA h k l)) FB))
      where
        FA : Cell R
        FA = factors_of 𝓞 conj X Y Z A

        FB : Cell R
        FB = factors_of 𝓞 conj X Y Z B

        step : (p q r s : R) → p ⊗ q ⊗ r ⊗ s ≡ p ⊗ (q ⊗ (r ⊗ s))
        step p q r s = ring 𝓡 (p ∷ q ∷ r ∷ s ∷ []) (search quote depth 40 fits 9999) refl

        commute : (p q : R) → p ⊗ q ≡ q ⊗ p
        commute p q = ring 𝓡 (p ∷ q ∷ []) (search quote depth 40 fits 9999) refl

        point : (x y z : ℕ) → x < 2 * a → y < 2 * b → z < 2 * c → A x y z ⊗ B ((x + s) % (2 * a)) ((y + t) % (2 * b)) ((z + r) % (2 * c)) ≡ over_roots 𝓡 𝓢 𝓧 𝓨 𝓩 (phased s t r FB) x y z ⊗ over_inverses 𝓡 𝓢 𝓧 𝓨 𝓩 (λ h k l. conj (FA h k l)) x y z
        point x y z xa yb zc =
            commute _ _
            ∙ ap₂ ◌⊗◌
            (inv (map_factors 𝓡 𝓧 𝓨 𝓩 B _ _ _ (N.mod-lt (x + s) (omega (arith, xa))) (N.mod-lt (y + t) (omega (arith, yb))) (N.mod-lt (z + r) (omega (arith, zc)))) ∙ shifted FB x y z ∙ map_nested 𝓡 X Y Z (phased s t r FB) x y z)
            (inv (real x y z xa yb zc) ∙ ap conj (inv (map_factors 𝓡 𝓧 𝓨 𝓩 A x y z xa yb zc)) ∙ conj_map 𝓡 𝓢 𝓧 𝓨 𝓩 FA x y z)

    -- the map over factors times d
    map_scaled : (d : R) (F : Cell R) → d ⊗ map_of 𝓞 X Y Z F s t r ≡ map_of 𝓞 X Y Z (λ h k l. d ⊗ F h k l) s t r
    unfolding map_of
    map_scaled d F =
        inv (sum_cong 𝓡 (2 * a) _ _ (λ h ha. sum_cong 𝓡 (2 * b) _ _ (λ k kb. sum_cong 𝓡 (2 * c) _ _ (λ l lc. out _ _ _ _ _) ∙ sum_mul 𝓡 (2 * c) _ _) ∙ sum_mul 𝓡 (2 * b) _ _) ∙ sum_mul 𝓡 (2 * a) _ _)
      where
        out : (d f p q r : R) → d ⊗ f ⊗ p ⊗ q ⊗ r ≡ d ⊗ (f ⊗ p ⊗ q ⊗ r)
        out d f p q r = ring 𝓡 (d ∷ f ∷ p ∷ q ∷ r ∷ []) (search quote depth 40 fits 9999) refl

    -- the same with N1 N2 N3 among the factors
    pub correlation_map : (A B : Cell R) → ((x y z : ℕ) → x < 2 * a → y < 2 * b → z < 2 * c → conj (A x y z) ≡ A x y z) →
        total 𝓞 X Y Z (λ x y z. A x y z ⊗ B ((x + s) % (2 * a)) ((y + t) % (2 * b)) ((z + r) % (2 * c)))
        ≡ map_of 𝓞 X Y Z (λ h k l. cast 𝓞 (2 * a * (2 * b) * (2 * c)) ⊗ (conj (factors_of 𝓞 conj X Y Z A h k l) ⊗ factors_of 𝓞 conj X Y Z B h k l)) s t r
    correlation_map A B real = correlation A B real ∙ map_scaled _ _
