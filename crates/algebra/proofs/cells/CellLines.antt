-- The rule of the line along l, by group.
use mathlib.Core.Path.{◌≡◌, ◌∙◌, ap, ap₂}
use Prim.Native.Nat.{ℕ, ◌*◌, ◌<◌}
use Rattle.algebra.specs.ring.Ring.{Ops, pow}
use Rattle.algebra.specs.ring.RingLaws.{CRing, Star}
use Rattle.algebra.specs.cells.Cell.{J, Group, P2₁, Pm, Pa, P2₁2₁2₁, image_of, neg_i, flip, Cell, at, sgn, star, implied_value}
use Rattle.algebra.specs.cells.CellPlaces.{line_sym}
use Rattle.algebra.specs.cells.CellSteps.{Lawful}
use Rattle.algebra.proofs.cells.CellGroup.{line_mem}
use Rattle.algebra.proofs.ring.Conj.{conj_sign}

module _ {R : Type 0} {𝓞 : Ops R} {conj : R → R} {i : R} (𝓡 : CRing 𝓞) (𝓢 : Star 𝓞 conj i) (A : J) where
  open 𝓞 use {add as ◌⊕◌, mul as ◌⊗◌, neg as ⊖◌, zer as 𝟘, one as 𝟙}
  open 𝓡 use {one_mul}
  open 𝓢 use {conj_mul, conj_i}

  infixl 65 ◌⊕◌
  infixl 70 ◌⊗◌
  infix 75 ⊖◌
  -- the rule of the line along l
  line_rule : (g : Group) (F : Cell R) → Lawful 𝓞 conj A g F → (h k l : ℕ) → h < 2 * A.0 → k < 2 * A.1 → l < 2 * A.2 → at F (image_of A (line_sym g) (h, k, l)) ≡ implied_value 𝓞 conj (line_sym g) (h, k, l) (F h k l)
  line_rule g F o h k l ha kb lc = o (line_sym g) (line_mem g) (h, k, l) (ha, kb, lc)

  pub line_P2₁ : (F : Cell R) → Lawful 𝓞 conj A P2₁ F → (h k l : ℕ) → h < 2 * A.0 → k < 2 * A.1 → l < 2 * A.2 → F h k (neg_i A.2 l) ≡ pow 𝓞 (⊖ 𝟙) l ⊗ conj (F h k l)
  unfolding image_of implied_value flip sgn star
  line_P2₁ F o h k l ha kb lc = line_rule P2₁ F o h k l ha kb lc ∙ ap conj (one_mul _ ∙ one_mul _) ∙ conj_mul _ _ ∙ ap (λ y. y ⊗ conj (F h k l)) (conj_sign 𝓡 𝓢 l)

  pub line_Pm : (F : Cell R) → Lawful 𝓞 conj A Pm F → (h k l : ℕ) → h < 2 * A.0 → k < 2 * A.1 → l < 2 * A.2 → F h k (neg_i A.2 l) ≡ F h k l
  unfolding image_of implied_value flip sgn star
  line_Pm F o h k l ha kb lc = line_rule Pm F o h k l ha kb lc ∙ one_mul _ ∙ one_mul _ ∙ one_mul _

  pub line_Pa : (F : Cell R) → Lawful 𝓞 conj A Pa F → (h k l : ℕ) → h < 2 * A.0 → k < 2 * A.1 → l < 2 * A.2 → F h k (neg_i A.2 l) ≡ pow 𝓞 (⊖ 𝟙) h ⊗ F h k l
  unfolding image_of implied_value flip sgn star
  line_Pa F o h k l ha kb lc = line_rule Pa F o h k l ha kb lc ∙ ap (λ y. pow 𝓞 (⊖ 𝟙) h ⊗ y) (one_mul _ ∙ one_mul _)

  pub line_4 : (F : Cell R) → Lawful 𝓞 conj A P2₁2₁2₁ F → (h k l : ℕ) → h < 2 * A.0 → k < 2 * A.1 → l < 2 * A.2 → F h k (neg_i A.2 l) ≡ pow 𝓞 (⊖ 𝟙) h ⊗ (pow 𝓞 (⊖ 𝟙) l ⊗ conj (F h k l))
  unfolding image_of implied_value flip sgn star
  line_4 F o h k l ha kb lc = line_rule P2₁2₁2₁ F o h k l ha kb lc ∙ conj_mul _ _ ∙ ap₂ ◌⊗◌ (conj_sign 𝓡 𝓢 h) (ap conj (one_mul _) ∙ conj_mul _ _ ∙ ap (λ y. y ⊗ conj (F h k l)) (conj_sign 𝓡 𝓢 l))
