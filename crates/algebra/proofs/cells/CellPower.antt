-- Power (Parseval's theorem in three dimensions): the sum of the squares of the map is N1 N2 N3 times the sum of F conj F.
use mathlib.Core.Path.{◌≡◌, refl, sym as inv, ◌∙◌, ap, ap₂}
use mathlib.Core.List.{[], ◌∷◌}
use Prim.Native.Nat.{ℕ, ◌*◌}
use Rattle.algebra.specs.ring.Ring.{Ops, sum, dft}
use Rattle.algebra.specs.fourier.Axis.{cast, Axis, AxisLaws}
use Rattle.algebra.specs.ring.RingLaws.{CRing, Star}
use Rattle.algebra.specs.cells.Cell.{friedel, Cell, map_of}
use Rattle.algebra.specs.cells.CellSteps.{halves, Obeys, total}
use Rattle.algebra.proofs.ring.Laws.{cast_mul}
use Rattle.algebra.proofs.ring.Solver.{ring, quote}
use Rattle.algebra.proofs.fourier.Sums.{sum_cong, sum_mul, sum_swap}
use Rattle.algebra.proofs.fourier.Transform.{dft_cong}
use Rattle.algebra.proofs.ring.Conj.{conj_dft}
use Rattle.algebra.proofs.cells.CellMap.{map_nested}
use Rattle.algebra.proofs.cells.CellOps.{friedel_real}
use Rattle.algebra.proofs.fourier.Properties.{parseval}

module _ {R : Type 0} {𝓞 : Ops R} {conj : R → R} {i : R} (𝓡 : CRing 𝓞) (𝓢 : Star 𝓞 conj i) {half : R} {X Y Z : Axis R} {tx ty tz : ℕ → R} (𝓧 : AxisLaws 𝓞 conj i half X tx) (𝓨 : AxisLaws 𝓞 conj i half Y ty) (𝓩 : AxisLaws 𝓞 conj i half Z tz) where
  open 𝓞 use {add as ◌⊕◌, mul as ◌⊗◌, neg as ⊖◌, zer as 𝟘, one as 𝟙}
  open X use {half as a, w as u, part as pu}
  open Y use {half as b, w as v, part as pv}
  open Z use {half as c, w as w, part as pw}

  infixl 65 ◌⊕◌
  infixl 70 ◌⊗◌
  -- the map over the roots, a transform along each axis; and over the inverse roots
  abbrev pub over_roots : Cell R → Cell R
  over_roots K x y z = dft 𝓞 (2 * a) u (λ h. dft 𝓞 (2 * b) v (λ k. dft 𝓞 (2 * c) w (λ l. K h k l) z) y) x

  abbrev pub over_inverses : Cell R → Cell R
  over_inverses K x y z = dft 𝓞 (2 * a) (conj u) (λ h. dft 𝓞 (2 * b) (conj v) (λ k. dft 𝓞 (2 * c) (conj w) (λ l. K h k l) z) y) x

  -- sums over the indices of each axis
  abbrev pub sum_x : (ℕ → R) → R
  sum_x f = sum 𝓞 (2 * a) f

  abbrev pub sum_y : (ℕ → R) → R
  sum_y f = sum 𝓞 (2 * b) f

  abbrev pub sum_z : (ℕ → R) → R
  sum_z f = sum 𝓞 (2 * c) f

  -- Parseval's theorem along one axis: the lines of two volumes, one transformed with the root and the other with its inverse
  pub along_x : (A B : ℕ → ℕ → ℕ → R) → sum_x (λ x. sum_y (λ y. sum_z (λ z. dft 𝓞 (2 * a) u (A y z) x ⊗ dft 𝓞 (2 * a) (conj u) (B y z) x))) ≡ cast 𝓞 (2 * a) ⊗ sum_x (λ h. sum_y (λ y. sum_z (λ z. A y z h ⊗ B y z h)))
  along_x A B =
      rot _ ∙ sum_cong 𝓡 (2 * b) _ _ (λ y yb. sum_cong 𝓡 (2 * c) _ _ (λ z zc. parseval 𝓡 (2 * a) u (conj u) pu 𝓧.root (A y z) (B y z)) ∙ sum_mul 𝓡 (2 * c) _ _) ∙ sum_mul 𝓡 (2 * b) _ _ ∙ ap (λ s. cast 𝓞 (2 * a) ⊗ s) (inv (rot (λ h y z. A y z h ⊗ B y z h)))
    where
      rot : (f : ℕ → ℕ → ℕ → R) → sum_x (λ x. sum_y (λ y. sum_z (λ z. f x y z))) ≡ sum_y (λ y. sum_z (λ z. sum_x (λ x. f x y z)))
      rot f = sum_swap 𝓡 (2 * a) (2 * b) (λ x y. sum_z (λ z. f x y z)) ∙ sum_cong 𝓡 (2 * b) _ _ (λ y yb. sum_swap 𝓡 (2 * a) (2 * c) (λ x z. f x y z))

  pub along_y : (A B : ℕ → ℕ → R) → sum_y (λ y. sum_z (λ z. dft 𝓞 (2 * b) v (A z) y ⊗ dft 𝓞 (2 * b) (conj v) (B z) y)) ≡ cast 𝓞 (2 * b) ⊗ sum_y (λ k. sum_z (λ z. A z k ⊗ B z k))
  along_y A B =
      sum_swap 𝓡 (2 * b) (2 * c) _ ∙ sum_cong 𝓡 (2 * c) _ _ (λ z zc. parseval 𝓡 (2 * b) v (conj v) pv 𝓨.root (A z) (B z)) ∙ sum_mul 𝓡 (2 * c) _ _ ∙ ap (λ s. cast 𝓞 (2 * b) ⊗ s) (sum_swap 𝓡 (2 * c) (2 * b) (λ z k. A z k ⊗ B z k))

  -- along all three: any two cells
  pub product : (F K : Cell R) → sum_x (λ x. sum_y (λ y. sum_z (λ z. over_roots F x y z ⊗ over_inverses K x y z))) ≡ cast 𝓞 (2 * a) ⊗ (cast 𝓞 (2 * b) ⊗ (cast 𝓞 (2 * c) ⊗ sum_x (λ h. sum_y (λ k. sum_z (λ l. F h k l ⊗ K h k l)))))
  product F K =
      along_x (λ y z h. dft 𝓞 (2 * b) v (λ k. dft 𝓞 (2 * c) w (λ l. F h k l) z) y) (λ y z h. dft 𝓞 (2 * b) (conj v) (λ k. dft 𝓞 (2 * c) (conj w) (λ l. K h k l) z) y)
      ∙ ap (λ s. cast 𝓞 (2 * a) ⊗ s)
      (sum_cong 𝓡 (2 * a) _ _ (λ h ha. along_y (λ z k. dft 𝓞 (2 * c) w (λ l. F h k l) z) (λ z k. dft 𝓞 (2 * c) (conj w) (λ l. K h k l) z)) ∙ sum_mul 𝓡 (2 * a) _ _
      ∙ ap (λ s. cast 𝓞 (2 * b) ⊗ s) (sum_cong 𝓡 (2 * a) _ _ (λ h ha. sum_cong 𝓡 (2 * b) _ _ (λ k kb. parseval 𝓡 (2 * c) w (conj w) pw 𝓩.root (λ l. F h k l) (λ l. K h k l)) ∙ sum_mul 𝓡 (2 * b) _ _) ∙ sum_mul 𝓡 (2 * a) _ _))

  -- the conjugate of a map is that of the conjugate cell over the inverse roots
  pub conj_map : (F : Cell R) (x y z : ℕ) → conj (map_of 𝓞 X Y Z F x y z) ≡ over_inverses (λ h k l. conj (F h k l)) x y z
  conj_map F x y z =
      ap conj (map_nested 𝓡 X Y Z F x y z)
      ∙ conj_dft 𝓡 𝓢 (2 * a) u _ x
      ∙ dft_cong 𝓡 (2 * a) (conj u) _ _ x (λ h ha. conj_dft 𝓡 𝓢 (2 * b) v _ y ∙ dft_cong 𝓡 (2 * b) (conj v) _ _ y (λ k kb. conj_dft 𝓡 𝓢 (2 * c) w _ z))

  -- any cell: the sum of map × conj map
  pub power_conj : (F : Cell R) →
      total 𝓞 X Y Z (λ x y z. map_of 𝓞 X Y Z F x y z ⊗ conj (map_of 𝓞 X Y Z F x y z)) ≡ cast 𝓞 (2 * a * (2 * b) * (2 * c)) ⊗ total 𝓞 X Y Z (λ h k l. F h k l ⊗ conj (F h k l))
  unfolding total
  power_conj F =
      sum_cong 𝓡 (2 * a) _ _ (λ x xa. sum_cong 𝓡 (2 * b) _ _ (λ y yb. sum_cong 𝓡 (2 * c) _ _ (λ z zc. ap₂ ◌⊗◌ (map_nested 𝓡 X Y Z F x y z) (conj_map F x y z))))
      ∙ product F (λ h k l. conj (F h k l)) ∙ inv (ap (λ s. s ⊗ sum_x (λ h. sum_y (λ k. sum_z (λ l. F h k l ⊗ conj (F h k l))))) (cast_mul 𝓡 (2 * a * (2 * b)) (2 * c) ∙ ap (λ s. s ⊗ cast 𝓞 (2 * c)) (cast_mul 𝓡 (2 * a) (2 * b))) ∙ step _ _ _ _)
    where
      step : (p q r s : R) → p ⊗ q ⊗ r ⊗ s ≡ p ⊗ (q ⊗ (r ⊗ s))
      step p q r s = ring 𝓡 (p ∷ q ∷ r ∷ s ∷ []) (search quote depth 40 fits 9999) refl

  -- with Friedel: the sum of the squares
  pub power : (F : Cell R) → Obeys 𝓞 conj (halves X Y Z) friedel F →
      total 𝓞 X Y Z (λ x y z. map_of 𝓞 X Y Z F x y z ⊗ map_of 𝓞 X Y Z F x y z) ≡ cast 𝓞 (2 * a * (2 * b) * (2 * c)) ⊗ total 𝓞 X Y Z (λ h k l. F h k l ⊗ conj (F h k l))
  unfolding total
  power F o = sum_cong 𝓡 (2 * a) _ _ (λ x xa. sum_cong 𝓡 (2 * b) _ _ (λ y yb. sum_cong 𝓡 (2 * c) _ _ (λ z zc. ap (λ s. map_of 𝓞 X Y Z F x y z ⊗ s) ((friedel_real 𝓡 𝓢 𝓧 𝓨 𝓩 F).0 o (x, y, z) (xa, yb, zc))))) ∙ power_conj F
