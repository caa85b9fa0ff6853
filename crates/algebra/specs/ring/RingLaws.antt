-- The laws of a commutative ring, and of a conjugation and an imaginary unit over it.
use Rattle.std.specs.Prelude.{◌≡◌}
use Rattle.algebra.specs.ring.Ring.{Ops}

module _ {R : Type 0} (𝓞 : Ops R) where
  open 𝓞 use {add as ◌⊕◌, mul as ◌⊗◌, neg as ⊖◌, zer as 𝟘, one as 𝟙}

  infixl 65 ◌⊕◌
  infixl 70 ◌⊗◌
  infix 75 ⊖◌
  -- a commutative ring
  pub record CRing : Type 0 where
    pub add_assoc : (a b c : R) → (a ⊕ b) ⊕ c ≡ a ⊕ (b ⊕ c)
    pub add_comm : (a b : R) → a ⊕ b ≡ b ⊕ a
    pub zero_add : (a : R) → 𝟘 ⊕ a ≡ a
    pub neg_add : (a : R) → ⊖ a ⊕ a ≡ 𝟘
    pub mul_assoc : (a b c : R) → (a ⊗ b) ⊗ c ≡ a ⊗ (b ⊗ c)
    pub mul_comm : (a b : R) → a ⊗ b ≡ b ⊗ a
    pub one_mul : (a : R) → 𝟙 ⊗ a ≡ a
    pub left_distrib : (a b c : R) → a ⊗ (b ⊕ c) ≡ a ⊗ b ⊕ a ⊗ c

  -- a conjugation, and an imaginary unit
  pub record Star (conj : R → R) (i : R) : Type 0 where
    pub conj_add : (a b : R) → conj (a ⊕ b) ≡ conj a ⊕ conj b
    pub conj_mul : (a b : R) → conj (a ⊗ b) ≡ conj a ⊗ conj b
    pub conj_neg : (a : R) → conj (⊖ a) ≡ ⊖ conj a
    pub conj_one : conj 𝟙 ≡ 𝟙
    pub conj_conj : (a : R) → conj (conj a) ≡ a
    pub i_square : i ⊗ i ≡ ⊖ 𝟙
    pub conj_i : conj i ≡ ⊖ i
