-- What an operation of the factors is to the map: F obeys it exactly if the map of F does, for all operations at once.
use mathlib.Core.Path.{◌≡◌, sym as inv, ◌∙◌, ap}
use mathlib.Core.Bool.{Bool, true, false}
use mathlib.Core.Logic.{◌↔◌}
use Prim.Native.Nat.{ℕ, ◌*◌, ◌<◌}
use Rattle.algebra.specs.ring.Ring.{Ops, dft}
use Rattle.algebra.specs.ring.RingLaws.{CRing, Star}
use Rattle.algebra.specs.fourier.Axis.{Axis, AxisLaws}
use Rattle.algebra.specs.cells.Cell.{J, Inside, Sym, sym, friedel, image_of, point_image, neg_i, flip, shifted, Cell, at, map_of, sgn, star, implied_value, implied_density, MapObeys}
use Rattle.algebra.specs.cells.CellSteps.{halves, Obeys}
use Rattle.algebra.proofs.ring.Paths.{triple}
use Rattle.algebra.proofs.fourier.Transform.{dft_cong, dft_mul}
use Rattle.algebra.proofs.cells.CellAxis.{D_image, D_conj, neg_lt, flip_neg}
use Rattle.algebra.proofs.cells.CellSym.{implied_twice, density_twice}
use Rattle.algebra.proofs.cells.CellMap.{map_nested, map_cong, map_known, Same}

module _ {R : Type 0} {𝓞 : Ops R} {conj : R → R} {i : R} (𝓡 : CRing 𝓞) (𝓢 : Star 𝓞 conj i) {half : R} {X Y Z : Axis R} {tx ty tz : ℕ → R} (𝓧 : AxisLaws 𝓞 conj i half X tx) (𝓨 : AxisLaws 𝓞 conj i half Y ty) (𝓩 : AxisLaws 𝓞 conj i half Z tz) where
  open 𝓞 use {add as ◌⊕◌, mul as ◌⊗◌, neg as ⊖◌, zer as 𝟘, one as 𝟙}
  open X use {half as a, w as u}
  open Y use {half as b, w as v}
  open Z use {half as c, w as w}

  infixl 65 ◌⊕◌
  infixl 70 ◌⊗◌
  infix 75 ⊖◌
  abbrev N : J
  N = halves X Y Z

  abbrev Map : Cell R → Cell R
  Map F = map_of 𝓞 X Y Z F

  -- what an operation makes of a cell
  unfoldable pub acted : Sym → Cell R → Cell R
  acted s F h k l = implied_value 𝓞 conj s (h, k, l) (at F (image_of N s (h, k, l)))

  map_plain : (f g e p q r : Bool) (F : Cell R) (x y z : ℕ) → x < 2 * a → y < 2 * b → z < 2 * c →
      Map (λ h k l. sgn 𝓞 p h ⊗ (sgn 𝓞 q k ⊗ (sgn 𝓞 r l ⊗ F (flip f a h) (flip g b k) (flip e c l)))) x y z ≡ Map F (shifted p a (flip f a x)) (shifted q b (flip g b y)) (shifted r c (flip e c z))
  map_plain f g e p q r F x y z xa yb zc =
      map_nested 𝓡 X Y Z _ x y z
      ∙ dft_cong 𝓡 (2 * a) u _ _ x (λ h ha.
      dft_cong 𝓡 (2 * b) v _ _ y (λ k kb. dft_mul 𝓡 (2 * c) w _ _ z ∙ ap (λ s. sgn 𝓞 p h ⊗ s) (dft_mul 𝓡 (2 * c) w _ _ z ∙ ap (λ s. sgn 𝓞 q k ⊗ s) (D_image 𝓡 𝓢 𝓩 e r (λ l. F (flip f a h) (flip g b k) l) z zc)))
      ∙ dft_mul 𝓡 (2 * b) v _ _ y ∙ ap (λ s. sgn 𝓞 p h ⊗ s) (D_image 𝓡 𝓢 𝓨 g q (λ k. dft 𝓞 (2 * c) w (λ l. F (flip f a h) k l) (shifted r c (flip e c z))) y yb))
      ∙ D_image 𝓡 𝓢 𝓧 f p (λ h. dft 𝓞 (2 * b) v (λ k. dft 𝓞 (2 * c) w (λ l. F h k l) (shifted r c (flip e c z))) (shifted q b (flip g b y))) x xa
      ∙ inv (map_nested 𝓡 X Y Z F _ _ _)

  map_conj : (F : Cell R) (x y z : ℕ) → x < 2 * a → y < 2 * b → z < 2 * c → Map (λ h k l. conj (F h k l)) x y z ≡ conj (Map F (neg_i a x) (neg_i b y) (neg_i c z))
  map_conj F x y z xa yb zc =
      map_nested 𝓡 X Y Z _ x y z
      ∙ dft_cong 𝓡 (2 * a) u _ _ x (λ h ha. dft_cong 𝓡 (2 * b) v _ _ y (λ k kb. D_conj 𝓡 𝓢 𝓩 (λ l. F h k l) z zc) ∙ D_conj 𝓡 𝓢 𝓨 (λ k. dft 𝓞 (2 * c) w (λ l. F h k l) (neg_i c z)) y yb)
      ∙ D_conj 𝓡 𝓢 𝓧 (λ h. dft 𝓞 (2 * b) v (λ k. dft 𝓞 (2 * c) w (λ l. F h k l) (neg_i c z)) (neg_i b y)) x xa
      ∙ ap conj (inv (map_nested 𝓡 X Y Z F _ _ _))

  -- the map of what the operation makes of F is the map of F at the image
  pub map_acted : (s : Sym) (F : Cell R) (x : J) → Inside N x → at (Map (acted s F)) x ≡ implied_density conj s (at (Map F) (point_image N s x))
  unfolding acted implied_value image_of point_image implied_density star
  map_acted (sym false f g e p q r) F x n = map_plain f g e p q r F x.0 x.1 x.2 n.0 n.1 n.2
  map_acted (sym true f g e p q r) F x n =
      map_conj _ x.0 x.1 x.2 n.0 n.1 n.2
      ∙ ap conj
      (map_plain f g e p q r F _ _ _ (neg_lt a _ n.0) (neg_lt b _ n.1) (neg_lt c _ n.2)
      ∙ ap (at (Map F)) (triple (ap (shifted p a) (flip_neg f a _ n.0)) (ap (shifted q b) (flip_neg g b _ n.1)) (ap (shifted r c) (flip_neg e c _ n.2))))

  pub obeys_acted : (s : Sym) (F : Cell R) → Obeys 𝓞 conj N s F ↔ Same N F (acted s F)
  unfolding acted
  obeys_acted s F = (λ o j n. inv (implied_twice 𝓡 𝓢 s j _) ∙ ap (implied_value 𝓞 conj s j) (inv (o j n)), λ e j n. inv (ap (implied_value 𝓞 conj s j) (e j n) ∙ implied_twice 𝓡 𝓢 s j _))

  -- F obeys an operation exactly if its map does: one proof for all operations, Friedel among them
  pub obeys_map : (s : Sym) (F : Cell R) → Obeys 𝓞 conj N s F ↔ MapObeys conj N s (Map F)
  obeys_map s F = (
    λ o x n. inv (density_twice 𝓡 𝓢 s _) ∙ ap (implied_density conj s) (inv (map_acted s F x n) ∙ inv (map_cong 𝓡 X Y Z F (acted s F) ((obeys_acted s F).0 o) _ _ _)),
    λ m. (obeys_acted s F).1 (map_known 𝓡 𝓧 𝓨 𝓩 F (acted s F) (λ x n. inv (ap (implied_density conj s) (m x n) ∙ density_twice 𝓡 𝓢 s _) ∙ inv (map_acted s F x n))),
  )

  -- Friedel's rule: the map is real
  pub friedel_real : (F : Cell R) → Obeys 𝓞 conj N friedel F ↔ ((x : J) → Inside N x → at (Map F) x ≡ conj (at (Map F) x))
  unfolding point_image implied_density star flip shifted
  friedel_real F = obeys_map friedel F
