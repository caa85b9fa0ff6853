-- The map and analysis as three transforms, and inversion both ways.
use mathlib.Core.Path.{◌≡◌, refl, sym as inv, ◌∙◌, ap}
use mathlib.Core.List.{[], ◌∷◌}
use Prim.Native.Nat.{ℕ, ◌*◌, ◌<◌}
use Rattle.algebra.specs.ring.Ring.{Ops, pow, sum, dft}
use Rattle.algebra.specs.ring.RingLaws.{CRing}
use Rattle.algebra.specs.fourier.Axis.{Axis, AxisLaws}
use Rattle.algebra.specs.cells.Cell.{J, Inside, Cell, at, map_of, factors_of}
use Rattle.algebra.specs.cells.CellSteps.{halves}
use Rattle.algebra.proofs.ring.Solver.{ring, quote}
use Rattle.algebra.proofs.fourier.Sums.{sum_cong, sum_mul_right, sum_swap}
use Rattle.algebra.proofs.fourier.Transform.{inversion, inversion_after, dft_cong, dft_mul}

-- equal at every index inside
abbrev pub Same : {R : Type 0} → J → Cell R → Cell R → Type 0
Same a F G = (j : J) → Inside a j → at F j ≡ at G j

module _ {R : Type 0} {𝓞 : Ops R} (𝓡 : CRing 𝓞) where
  open 𝓞 use {add as ◌⊕◌, mul as ◌⊗◌, neg as ⊖◌, zer as 𝟘, one as 𝟙}
  open 𝓡 use {mul_assoc}

  infixl 65 ◌⊕◌
  infixl 70 ◌⊗◌
  infix 75 ⊖◌
  -- a triple sum is three transforms
  pub nested : (n m q : ℕ) (u v w : R) (G : ℕ → ℕ → ℕ → R) (x y z : ℕ) →
      sum 𝓞 n (λ h. sum 𝓞 m (λ k. sum 𝓞 q (λ l. G h k l ⊗ pow 𝓞 u (h * x) ⊗ pow 𝓞 v (k * y) ⊗ pow 𝓞 w (l * z)))) ≡ dft 𝓞 n u (λ h. dft 𝓞 m v (λ k. dft 𝓞 q w (λ l. G h k l) z) y) x
  unfolding dft
  nested n m q u v w G x y z = sum_cong 𝓡 n _ _ (λ h a. sum_cong 𝓡 m _ _ (λ k b. sum_cong 𝓡 q _ _ (λ l c. step _ _ _ _) ∙ sum_mul_right 𝓡 q _ _ ∙ inv (mul_assoc _ _ _)) ∙ sum_mul_right 𝓡 m _ _)
    where
      step : (g a b c : R) → g ⊗ a ⊗ b ⊗ c ≡ g ⊗ c ⊗ (b ⊗ a)
      step g a b c = ring 𝓡 (g ∷ a ∷ b ∷ c ∷ []) (search quote depth 40 fits 9999) refl

  -- two transforms along two axes
  pub dft_swap : (n m : ℕ) (u v : R) (G : ℕ → ℕ → R) (x y : ℕ) → dft 𝓞 n u (λ h. dft 𝓞 m v (λ k. G h k) y) x ≡ dft 𝓞 m v (λ k. dft 𝓞 n u (λ h. G h k) x) y
  unfolding dft
  dft_swap n m u v G x y = sum_cong 𝓡 n _ _ (λ h a. inv (sum_mul_right 𝓡 m _ _)) ∙ sum_swap 𝓡 n m _ ∙ sum_cong 𝓡 m _ _ (λ k b. sum_cong 𝓡 n _ _ (λ h a. step _ _ _) ∙ sum_mul_right 𝓡 n _ _)
    where
      step : (g a b : R) → g ⊗ a ⊗ b ≡ g ⊗ b ⊗ a
      step g a b = ring 𝓡 (g ∷ a ∷ b ∷ []) (search quote depth 40 fits 9999) refl

-- The map, over any axes.
module _ {R : Type 0} {𝓞 : Ops R} (𝓡 : CRing 𝓞) (X Y Z : Axis R) where
  open X use {half as a, w as u}
  open Y use {half as b, w as v}
  open Z use {half as c, w as w}

  -- by axes: h outermost
  pub map_nested : (F : Cell R) (x y z : ℕ) → map_of 𝓞 X Y Z F x y z ≡ dft 𝓞 (2 * a) u (λ h. dft 𝓞 (2 * b) v (λ k. dft 𝓞 (2 * c) w (λ l. F h k l) z) y) x
  unfolding map_of
  map_nested F x y z = nested 𝓡 (2 * a) (2 * b) (2 * c) u v w F x y z

  pub map_cong : (F G : Cell R) → Same (halves X Y Z) F G → (x y z : ℕ) → map_of 𝓞 X Y Z F x y z ≡ map_of 𝓞 X Y Z G x y z
  map_cong F G e x y z = map_nested F x y z ∙ dft_cong 𝓡 (2 * a) u _ _ x (λ h ha. dft_cong 𝓡 (2 * b) v _ _ y (λ k kb. dft_cong 𝓡 (2 * c) w _ _ z (λ l lc. e (h, k, l) (ha, kb, lc)))) ∙ inv (map_nested G x y z)

-- Analysis, over any axes.
module _ {R : Type 0} {𝓞 : Ops R} (𝓡 : CRing 𝓞) (conj : R → R) (X Y Z : Axis R) where
  open 𝓞 use {mul as ◌⊗◌}
  open X use {half as a, w as u, part as pu}
  open Y use {half as b, w as v, part as pv}
  open Z use {half as c, w as w, part as pw}

  infixl 70 ◌⊗◌
  -- analysis by axes: x innermost
  pub factors_nested : (M : Cell R) (h k l : ℕ) →
      factors_of 𝓞 conj X Y Z M h k l ≡ pw ⊗ dft 𝓞 (2 * c) (conj w) (λ z. pv ⊗ dft 𝓞 (2 * b) (conj v) (λ y. pu ⊗ dft 𝓞 (2 * a) (conj u) (λ x. M x y z) h) k) l
  unfolding factors_of
  factors_nested M h k l =
      ap (λ s. pu ⊗ pv ⊗ pw ⊗ s)
      (nested 𝓡 (2 * a) (2 * b) (2 * c) (conj u) (conj v) (conj w) M h k l
      ∙ dft_cong 𝓡 (2 * a) (conj u) _ _ h (λ x xa. dft_swap 𝓡 (2 * b) (2 * c) (conj v) (conj w) (λ y z. M x y z) k l)
      ∙ dft_swap 𝓡 (2 * a) (2 * c) (conj u) (conj w) _ h l
      ∙ dft_cong 𝓡 (2 * c) (conj w) _ _ l (λ z zc. dft_swap 𝓡 (2 * a) (2 * b) (conj u) (conj v) (λ x y. M x y z) h k))
      ∙ inv (ap (λ s. pw ⊗ s) (dft_cong 𝓡 (2 * c) (conj w) _ _ l (λ z zc. ap (λ s. pv ⊗ s) (dft_mul 𝓡 (2 * b) (conj v) pu _ k)) ∙ dft_mul 𝓡 (2 * c) (conj w) pv _ l ∙ ap (λ s. pv ⊗ s) (dft_mul 𝓡 (2 * c) (conj w) pu _ l)) ∙ step pu pv pw _)
    where
      step : (p q r s : R) → r ⊗ (q ⊗ (p ⊗ s)) ≡ p ⊗ q ⊗ r ⊗ s
      step p q r s = ring 𝓡 (p ∷ q ∷ r ∷ s ∷ []) (search quote depth 40 fits 9999) refl

  pub factors_cong : (F G : Cell R) → Same (halves X Y Z) F G → (h k l : ℕ) → factors_of 𝓞 conj X Y Z F h k l ≡ factors_of 𝓞 conj X Y Z G h k l
  factors_cong F G e h k l =
      factors_nested F h k l
      ∙ ap (λ s. pw ⊗ s) (dft_cong 𝓡 (2 * c) (conj w) _ _ l (λ z zc. ap (λ s. pv ⊗ s) (dft_cong 𝓡 (2 * b) (conj v) _ _ k (λ y yb. ap (λ s. pu ⊗ s) (dft_cong 𝓡 (2 * a) (conj u) _ _ h (λ x xa. e (x, y, z) (xa, yb, zc)))))))
      ∙ inv (factors_nested G h k l)

-- Over lawful axes.
module _ {R : Type 0} {𝓞 : Ops R} {conj : R → R} {i : R} (𝓡 : CRing 𝓞) {half : R} {X Y Z : Axis R} {tx ty tz : ℕ → R} (𝓧 : AxisLaws 𝓞 conj i half X tx) (𝓨 : AxisLaws 𝓞 conj i half Y ty) (𝓩 : AxisLaws 𝓞 conj i half Z tz) where
  open 𝓞 use {add as ◌⊕◌, mul as ◌⊗◌, neg as ⊖◌, zer as 𝟘, one as 𝟙}
  open X use {half as a, w as u, part as pu}
  open Y use {half as b, w as v, part as pv}
  open Z use {half as c, w as w, part as pw}

  infixl 65 ◌⊕◌
  infixl 70 ◌⊗◌
  infix 75 ⊖◌
  -- analysis undoes the map
  pub factors_map : (F : Cell R) (h k l : ℕ) → h < 2 * a → k < 2 * b → l < 2 * c → factors_of 𝓞 conj X Y Z (map_of 𝓞 X Y Z F) h k l ≡ F h k l
  factors_map F h k l ha kb lc =
      factors_nested 𝓡 conj X Y Z _ h k l
      ∙ ap (λ s. pw ⊗ s)
      (dft_cong 𝓡 (2 * c) (conj w) _ _ l (λ z zc. ap (λ s. pv ⊗ s)
      (dft_cong 𝓡 (2 * b) (conj v) _ _ k (λ y yb. ap (λ s. pu ⊗ s) (dft_cong 𝓡 (2 * a) (conj u) _ _ h (λ x xa. map_nested 𝓡 X Y Z F x y z)) ∙ inversion 𝓡 (2 * a) u (conj u) pu 𝓧.root _ h ha)) ∙ inversion 𝓡 (2 * b) v (conj v) pv 𝓨.root _ k kb))
      ∙ inversion 𝓡 (2 * c) w (conj w) pw 𝓩.root _ l lc

  -- and the map undoes analysis
  pub map_factors : (M : Cell R) (x y z : ℕ) → x < 2 * a → y < 2 * b → z < 2 * c → map_of 𝓞 X Y Z (factors_of 𝓞 conj X Y Z M) x y z ≡ M x y z
  map_factors M x y z xa yb zc =
      map_nested 𝓡 X Y Z _ x y z
      ∙ dft_cong 𝓡 (2 * a) u _ _ x (λ h ha. dft_cong 𝓡 (2 * b) v _ _ y (λ k kb. dft_cong 𝓡 (2 * c) w _ _ z (λ l lc. factors_nested 𝓡 conj X Y Z M h k l) ∙ inversion_after 𝓡 (2 * c) w (conj w) pw 𝓩.root _ z zc) ∙ inversion_after 𝓡 (2 * b) v (conj v) pv 𝓨.root _ y yb)
      ∙ inversion_after 𝓡 (2 * a) u (conj u) pu 𝓧.root _ x xa

  -- a cell is known by its map
  pub map_known : (F G : Cell R) → Same (halves X Y Z) (map_of 𝓞 X Y Z F) (map_of 𝓞 X Y Z G) → Same (halves X Y Z) F G
  map_known F G e (h, k, l) (ha, kb, lc) = inv (factors_map F h k l ha kb lc) ∙ factors_cong 𝓡 conj X Y Z _ _ e h k l ∙ factors_map G h k l ha kb lc
