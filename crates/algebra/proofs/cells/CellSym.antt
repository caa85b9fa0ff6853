-- Operations: the image of an image, the value that an implied value implies.
use mathlib.Core.Path.{◌≡◌, refl, sym as inv, ◌∙◌, ap, ap₂}
use mathlib.Core.Bool.{Bool, true, false}
use mathlib.Core.List.{[], ◌∷◌}
use Prim.Native.Nat.{ℕ, ◌*◌, ◌<◌}
use Rattle.algebra.specs.ring.Ring.{Ops}
use Rattle.algebra.specs.ring.RingLaws.{CRing, Star}
use Rattle.algebra.specs.cells.Cell.{J, Inside, Sym, sym, one, ◌·◌, image_of, point_image, flip, shifted, xor, sgn, star, implied_value, implied_density}
use Rattle.algebra.proofs.ring.Paths.{triple}
use Rattle.algebra.proofs.ring.Solver.{ring, quote}
use Rattle.algebra.proofs.cells.CellAxis.{flip_lt, shifted_lt, flip_flip, both_both, sgn_sgn, sgn_flip, star_star, star_sgn}

xor_same : (b : Bool) → xor b b ≡ false
xor_same false = refl
xor_same true = refl

xor_assoc : (a b c : Bool) → xor (xor a b) c ≡ xor a (xor b c)
xor_assoc false b c = refl
xor_assoc true false c = refl
xor_assoc true true false = refl
xor_assoc true true true = refl

xor_comm : (a b : Bool) → xor a b ≡ xor b a
xor_comm false false = refl
xor_comm false true = refl
xor_comm true false = refl
xor_comm true true = refl

pub square : (s : Sym) → s · s ≡ one
square (sym c f g h p q r) = simp xor_same

pub comm : (s t : Sym) → s · t ≡ t · s
comm (sym c f g h p q r) (sym c₁ f₁ g₁ h₁ p₁ q₁ r₁) = rw (xor_comm c c₁, xor_comm f f₁, xor_comm g g₁, xor_comm h h₁, xor_comm p p₁, xor_comm q q₁, xor_comm r r₁)

pub image_inside : (a : J) (s : Sym) (j : J) → Inside a j → Inside a (image_of a s j)
unfolding image_of
image_inside a (sym c f g h p q r) j n = (flip_lt f _ _ n.0, flip_lt g _ _ n.1, flip_lt h _ _ n.2)

pub image_one : (a j : J) → image_of a one j ≡ j
unfolding image_of flip
image_one a j = refl

pub image_image : (a : J) (s t : Sym) (j : J) → Inside a j → image_of a s (image_of a t j) ≡ image_of a (s · t) j
unfolding image_of
image_image a (sym c f g h p q r) (sym c₁ f₁ g₁ h₁ p₁ q₁ r₁) j n = triple (flip_flip f f₁ _ _ n.0) (flip_flip g g₁ _ _ n.1) (flip_flip h h₁ _ _ n.2)

-- points
pub point_inside : (a : J) (s : Sym) (j : J) → Inside a j → Inside a (point_image a s j)
unfolding point_image
point_inside a (sym c f g h p q r) j n = (shifted_lt p _ _ (flip_lt (xor c f) _ _ n.0), shifted_lt q _ _ (flip_lt (xor c g) _ _ n.1), shifted_lt r _ _ (flip_lt (xor c h) _ _ n.2))

pub point_one : (a j : J) → point_image a one j ≡ j
unfolding point_image flip shifted
point_one a j = refl

four : (a b c d : Bool) → xor (xor a b) (xor c d) ≡ xor (xor a c) (xor b d)
four false false c d = refl
four false true c d = four_b c d
  where
    four_b : (c d : Bool) → xor true (xor c d) ≡ xor c (xor true d)
    four_b false d = refl
    four_b true false = refl
    four_b true true = refl
four true b false d = xor_assoc true b d
four true false true d = four_c d
  where
    four_c : (d : Bool) → xor true (xor true d) ≡ xor false d
    four_c false = refl
    four_c true = refl
four true true true false = refl
four true true true true = refl

pub point_point : (a : J) (s t : Sym) (j : J) → Inside a j → point_image a s (point_image a t j) ≡ point_image a (s · t) j
unfolding point_image
point_point a (sym c f g h p q r) (sym c₁ f₁ g₁ h₁ p₁ q₁ r₁) j n =
    triple (step c c₁ f p f₁ p₁ a.0 j.0 n.0) (step c c₁ g q g₁ q₁ a.1 j.1 n.1) (step c c₁ h r h₁ r₁ a.2 j.2 n.2)
  where
    step : (c d f p g q : Bool) (a x : ℕ) → x < 2 * a → shifted p a (flip (xor c f) a (shifted q a (flip (xor d g) a x))) ≡ shifted (xor p q) a (flip (xor (xor c d) (xor f g)) a x)
    step c d f p g q a x l = both_both (xor c f) p (xor d g) q a x l ∙ ap (λ y. shifted (xor p q) a (flip y a x)) (four c f d g)

module _ {R : Type 0} {𝓞 : Ops R} {conj : R → R} {i : R} (𝓡 : CRing 𝓞) (𝓢 : Star 𝓞 conj i) where
  open 𝓞 use {add as ◌⊕◌, mul as ◌⊗◌, neg as ⊖◌, zer as 𝟘, one as 𝟙}
  open 𝓡 use {one_mul}

  infixl 65 ◌⊕◌
  infixl 70 ◌⊗◌
  infix 75 ⊖◌
  pub implied_out : (c f g h p q r : Bool) (j : J) (v : R) → implied_value 𝓞 conj (sym c f g h p q r) j v ≡ sgn 𝓞 p j.0 ⊗ (sgn 𝓞 q j.1 ⊗ (sgn 𝓞 r j.2 ⊗ star conj c v))
  unfolding implied_value
  implied_out c f g h p q r j v = star_sgn 𝓡 𝓢 c p j.0 _ ∙ ap (λ y. sgn 𝓞 p j.0 ⊗ y) (star_sgn 𝓡 𝓢 c q j.1 _ ∙ ap (λ y. sgn 𝓞 q j.1 ⊗ y) (star_sgn 𝓡 𝓢 c r j.2 v))

  pub implied_one : (j : J) (v : R) → implied_value 𝓞 conj one j v ≡ v
  unfolding implied_value sgn star
  implied_one j v = one_mul _ ∙ one_mul _ ∙ one_mul v

  pub implied_implied : (s t : Sym) (j : J) (v : R) → implied_value 𝓞 conj s j (implied_value 𝓞 conj t j v) ≡ implied_value 𝓞 conj (s · t) j v
  implied_implied (sym c f g h p q r) (sym c₁ f₁ g₁ h₁ p₁ q₁ r₁) j v =
      implied_out c f g h p q r j _
      ∙ ap (λ y. P ⊗ (Q ⊗ (S ⊗ y))) (ap (star conj c) (implied_out c₁ f₁ g₁ h₁ p₁ q₁ r₁ j v) ∙ star_sgn 𝓡 𝓢 c p₁ j.0 _ ∙ ap (λ y. P₁ ⊗ y) (star_sgn 𝓡 𝓢 c q₁ j.1 _ ∙ ap (λ y. Q₁ ⊗ y) (star_sgn 𝓡 𝓢 c r₁ j.2 _ ∙ ap (λ y. S₁ ⊗ y) (star_star 𝓡 𝓢 c c₁ v))))
      ∙ step P Q S P₁ Q₁ S₁ _
      ∙ ap₂ ◌⊗◌ (sgn_sgn 𝓡 𝓢 p p₁ j.0) (ap₂ ◌⊗◌ (sgn_sgn 𝓡 𝓢 q q₁ j.1) (ap (λ y. y ⊗ star conj (xor c c₁) v) (sgn_sgn 𝓡 𝓢 r r₁ j.2)))
      ∙ inv (implied_out (xor c c₁) (xor f f₁) (xor g g₁) (xor h h₁) (xor p p₁) (xor q q₁) (xor r r₁) j v)
    where
      P : R
      P = sgn 𝓞 p j.0

      Q : R
      Q = sgn 𝓞 q j.1

      S : R
      S = sgn 𝓞 r j.2

      P₁ : R
      P₁ = sgn 𝓞 p₁ j.0

      Q₁ : R
      Q₁ = sgn 𝓞 q₁ j.1

      S₁ : R
      S₁ = sgn 𝓞 r₁ j.2

      step : (a b c d e f v : R) → a ⊗ (b ⊗ (c ⊗ (d ⊗ (e ⊗ (f ⊗ v))))) ≡ a ⊗ d ⊗ (b ⊗ e ⊗ (c ⊗ f ⊗ v))
      step a b c d e f v = ring 𝓡 (a ∷ b ∷ c ∷ d ∷ e ∷ f ∷ v ∷ []) (search quote depth 40 fits 9999) refl

  pub implied_twice : (s : Sym) (j : J) (v : R) → implied_value 𝓞 conj s j (implied_value 𝓞 conj s j v) ≡ v
  implied_twice s j v = implied_implied s s j v ∙ ap (λ t. implied_value 𝓞 conj t j v) (square s) ∙ implied_one j v

  -- the implied value does not know where in the orbit it is asked
  pub implied_image : (a : J) (s t : Sym) (j : J) (v : R) → Inside a j → implied_value 𝓞 conj s (image_of a t j) v ≡ implied_value 𝓞 conj s j v
  unfolding implied_value image_of
  implied_image a (sym c f g h p q r) (sym c₁ f₁ g₁ h₁ p₁ q₁ r₁) j v n = ap (star conj c) (ap₂ ◌⊗◌ (sgn_flip 𝓡 𝓢 p f₁ a.0 j.0 n.0) (ap₂ ◌⊗◌ (sgn_flip 𝓡 𝓢 q g₁ a.1 j.1 n.1) (ap (λ y. y ⊗ v) (sgn_flip 𝓡 𝓢 r h₁ a.2 j.2 n.2))))

  pub density_density : (s t : Sym) (v : R) → implied_density conj s (implied_density conj t v) ≡ implied_density conj (s · t) v
  unfolding implied_density
  density_density (sym c f g h p q r) (sym c₁ f₁ g₁ h₁ p₁ q₁ r₁) v = star_star 𝓡 𝓢 c c₁ v

  pub density_one : (v : R) → implied_density conj one v ≡ v
  unfolding implied_density star
  density_one v = refl

  pub density_twice : (s : Sym) (v : R) → implied_density conj s (implied_density conj s v) ≡ v
  density_twice s v = density_density s s v ∙ ap (λ t. implied_density conj t v) (square s) ∙ density_one v
