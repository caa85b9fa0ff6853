-- The passes compose to the map and to analysis, and the middle of each is the middle of the other; the k-lines are Hermitian by Friedel.
use mathlib.Core.Path.{◌≡◌, refl, sym as inv, ◌∙◌, ap, ap₂}
use mathlib.Core.List.{[], ◌∷◌}
use Prim.Native.Nat.{ℕ, ◌*◌, ◌<◌}
use Rattle.algebra.specs.ring.Ring.{Ops}
use Rattle.algebra.specs.ring.RingLaws.{CRing, Star}
use Rattle.algebra.specs.fourier.Axis.{Axis, AxisLaws}
use Rattle.algebra.specs.cells.Cell.{J, Sym, friedel, image_of, neg_i, flip, Cell, map_of, factors_of, sgn, star, implied_value, implied_density, MapObeys}
use Rattle.algebra.specs.cells.CellSteps.{halves, Obeys, after_l, after_h, after_k, back_k, back_h, back_l}
use Rattle.algebra.proofs.ring.Solver.{ring, quote}
use Rattle.algebra.proofs.fourier.Transform.{dft_cong, dft_mul, inversion_after}
use Rattle.algebra.proofs.cells.CellAxis.{neg_lt, neg_neg', conj_D}
use Rattle.algebra.proofs.cells.CellSym.{point_inside}
use Rattle.algebra.proofs.cells.CellMap.{dft_swap, map_nested, factors_nested, map_factors}
use Rattle.algebra.proofs.cells.CellOps.{obeys_map}

-- The passes compose to the map, and to analysis, over any axes.
module _ {R : Type 0} {𝓞 : Ops R} (𝓡 : CRing 𝓞) (conj : R → R) (X Y Z : Axis R) where
  open 𝓞 use {mul as ◌⊗◌}
  open X use {half as a, w as u, part as pu}
  open Y use {half as b, w as v, part as pv}
  open Z use {half as c, w as w, part as pw}

  infixl 70 ◌⊗◌
  -- synthesis: l, then h, then k
  pub synthesis : (F : Cell R) (x y z : ℕ) → after_k 𝓞 Y (after_h 𝓞 X (after_l 𝓞 Z F)) x y z ≡ map_of 𝓞 X Y Z F x y z
  unfolding after_l after_h after_k
  synthesis F x y z = inv (map_nested 𝓡 X Y Z F x y z ∙ dft_swap 𝓡 (2 * a) (2 * b) u v _ x y)

  -- analysis: k, then h, then l
  pub analysis : (M : Cell R) (h k l : ℕ) → back_l 𝓞 conj Z (back_h 𝓞 conj X (back_k 𝓞 conj Y M)) h k l ≡ factors_of 𝓞 conj X Y Z M h k l
  unfolding back_l back_h back_k
  analysis M h k l = inv (factors_nested 𝓡 conj X Y Z M h k l ∙ ap (λ s. pw ⊗ s) (dft_cong 𝓡 (2 * c) (conj w) _ _ l (λ z zc. ap (λ s. pv ⊗ s) (dft_mul 𝓡 (2 * b) (conj v) pu _ k ∙ ap (λ s. pu ⊗ s) (inv (dft_swap 𝓡 (2 * a) (2 * b) (conj u) (conj v) (λ x y. M x y z) h k))) ∙ step pv pu _ ∙ ap (λ s. pu ⊗ s) (inv (dft_mul 𝓡 (2 * a) (conj u) pv _ h)))))
    where
      step : (p q s : R) → p ⊗ (q ⊗ s) ≡ q ⊗ (p ⊗ s)
      step p q s = ring 𝓡 (p ∷ q ∷ s ∷ []) (search quote depth 40 fits 9999) refl

-- Over lawful axes.
module _ {R : Type 0} {𝓞 : Ops R} {conj : R → R} {i : R} (𝓡 : CRing 𝓞) (𝓢 : Star 𝓞 conj i) {half : R} {X Y Z : Axis R} {tx ty tz : ℕ → R} (𝓧 : AxisLaws 𝓞 conj i half X tx) (𝓨 : AxisLaws 𝓞 conj i half Y ty) (𝓩 : AxisLaws 𝓞 conj i half Z tz) where
  open 𝓞 use {add as ◌⊕◌, mul as ◌⊗◌, neg as ⊖◌, zer as 𝟘, one as 𝟙}
  open 𝓡 use {one_mul}
  open X use {half as a, w as u, part as pu}
  open Y use {half as b}
  open Z use {half as c, w as w, part as pw}

  infixl 70 ◌⊗◌
  abbrev H : J
  H = halves X Y Z

  abbrev L : Cell R → Cell R
  L F = after_l 𝓞 Z F

  abbrev LH : Cell R → Cell R
  LH F = after_h 𝓞 X (after_l 𝓞 Z F)

  -- what analysis of M leaves on its way is what synthesis of its factors passes
  pub halfway_h : (M : Cell R) (h k z : ℕ) → z < 2 * c → L (factors_of 𝓞 conj X Y Z M) h k z ≡ back_h 𝓞 conj X (back_k 𝓞 conj Y M) h k z
  unfolding after_l back_l
  halfway_h M h k z zc = dft_cong 𝓡 (2 * c) w _ _ z (λ l lc. inv (analysis 𝓡 conj X Y Z M h k l)) ∙ inversion_after 𝓡 (2 * c) w (conj w) pw 𝓩.root _ z zc

  pub friedel_at : (F : Cell R) → Obeys 𝓞 conj H friedel F → (h k l : ℕ) → h < 2 * a → k < 2 * b → l < 2 * c → F (neg_i a h) (neg_i b k) (neg_i c l) ≡ conj (F h k l)
  unfolding image_of implied_value flip sgn star
  friedel_at F o h k l ha kb lc = o (h, k, l) (ha, kb, lc) ∙ ap conj (one_mul _ ∙ one_mul _ ∙ one_mul _)

  -- after the passes along l and h the k-lines are Hermitian, by Friedel
  pub hermitian : (F : Cell R) → Obeys 𝓞 conj H friedel F → (x k z : ℕ) → x < 2 * a → k < 2 * b → z < 2 * c → LH F x (neg_i b k) z ≡ conj (LH F x k z)
  unfolding after_l after_h
  hermitian F o x k z xa kb zc =
      inv (conj_D 𝓡 𝓢 𝓧 _ x xa ∙ dft_cong 𝓡 (2 * a) u _ _ x (λ h ha. conj_D 𝓡 𝓢 𝓩 _ z zc ∙ dft_cong 𝓡 (2 * c) w _ _ z (λ l lc.
      inv (friedel_at F o (neg_i a h) k (neg_i c l) (neg_lt a h ha) kb (neg_lt c l lc)) ∙ ap₂ (λ p q. F p (neg_i b k) q) (neg_neg' a h ha) (neg_neg' c l lc))))

  -- the factors of a map that obeys an operation obey it
  pub factors_obey : (s : Sym) (M : Cell R) → MapObeys conj H s M → Obeys 𝓞 conj H s (factors_of 𝓞 conj X Y Z M)
  factors_obey s M o = (obeys_map 𝓡 𝓢 𝓧 𝓨 𝓩 s (factors_of 𝓞 conj X Y Z M)).1 (λ x n. let q = point_inside H s x n in map_factors 𝓡 𝓧 𝓨 𝓩 M _ _ _ q.0 q.1 q.2 ∙ o x n ∙ ap (implied_density conj s) (inv (map_factors 𝓡 𝓧 𝓨 𝓩 M _ _ _ n.0 n.1 n.2)))
