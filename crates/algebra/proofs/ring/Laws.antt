-- The laws of a commutative ring that follow from the record's.
use mathlib.Core.Path.{◌≡◌, sym, ◌∙◌, ap}
use Prim.Native.Nat.{ℕ, zero, suc, ◌+◌, ◌*◌}
use native.Mathlib.Nat as N
use Rattle.algebra.specs.ring.Ring.{Ops, pow}
use Rattle.algebra.specs.fourier.Axis.{cast}
use Rattle.algebra.specs.ring.RingLaws.{CRing}

-- a function at two equal numbers, both written, so that `omega` can prove them equal
pub along : {A : Type 0} (f : ℕ → A) (m n : ℕ) → m ≡ n → f m ≡ f n
along f m n e = ap f e

module _ {R : Type 0} {𝓞 : Ops R} (𝓡 : CRing 𝓞) where
  open 𝓞 use {add as ◌⊕◌, mul as ◌⊗◌, neg as ⊖◌, zer as 𝟘, one as 𝟙}
  open 𝓡 use {add_assoc, add_comm, zero_add, neg_add, mul_assoc, mul_comm, one_mul, left_distrib}

  infixl 65 ◌⊕◌
  infixl 70 ◌⊗◌
  infix 75 ⊖◌
  pub add_zero : (a : R) → a ⊕ 𝟘 ≡ a
  add_zero a = add_comm a 𝟘 ∙ zero_add a

  pub add_neg : (a : R) → a ⊕ ⊖ a ≡ 𝟘
  add_neg a = add_comm a (⊖ a) ∙ neg_add a

  pub mul_one : (a : R) → a ⊗ 𝟙 ≡ a
  mul_one a = mul_comm a 𝟙 ∙ one_mul a

  pub right_distrib : (a b c : R) → (a ⊕ b) ⊗ c ≡ a ⊗ c ⊕ b ⊗ c
  right_distrib a b c = rw (mul_comm (a ⊕ b) c, mul_comm a c, mul_comm b c) (left_distrib c a b)

  pub add_left_comm : (a b c : R) → a ⊕ (b ⊕ c) ≡ b ⊕ (a ⊕ c)
  add_left_comm a b c = sym (add_assoc a b c) ∙ ap (λ x. x ⊕ c) (add_comm a b) ∙ add_assoc b a c

  pub mul_left_comm : (a b c : R) → a ⊗ (b ⊗ c) ≡ b ⊗ (a ⊗ c)
  mul_left_comm a b c = sym (mul_assoc a b c) ∙ ap (λ x. x ⊗ c) (mul_comm a b) ∙ mul_assoc b a c

  pub neg_add_cancel_left : (a b : R) → ⊖ a ⊕ (a ⊕ b) ≡ b
  neg_add_cancel_left a b = sym (add_assoc (⊖ a) a b) ∙ ap (λ x. x ⊕ b) (neg_add a) ∙ zero_add b

  pub add_neg_cancel_left : (a b : R) → a ⊕ (⊖ a ⊕ b) ≡ b
  add_neg_cancel_left a b = sym (add_assoc a (⊖ a) b) ∙ ap (λ x. x ⊕ b) (add_neg a) ∙ zero_add b

  pub add_left_cancel : (a b c : R) → a ⊕ b ≡ a ⊕ c → b ≡ c
  add_left_cancel a b c e = sym (neg_add_cancel_left a b) ∙ ap (λ x. ⊖ a ⊕ x) e ∙ neg_add_cancel_left a c

  pub neg_unique : (a b : R) → a ⊕ b ≡ 𝟘 → b ≡ ⊖ a
  neg_unique a b e = add_left_cancel a b (⊖ a) (e ∙ sym (add_neg a))

  pub neg_neg : (a : R) → ⊖ (⊖ a) ≡ a
  neg_neg a = sym (neg_unique (⊖ a) a (neg_add a))

  pub neg_zero : ⊖ 𝟘 ≡ 𝟘
  neg_zero = sym (neg_unique 𝟘 𝟘 (zero_add 𝟘))

  pub neg_sum : (a b : R) → ⊖ (a ⊕ b) ≡ ⊖ a ⊕ ⊖ b
  neg_sum a b = sym (neg_unique (a ⊕ b) (⊖ a ⊕ ⊖ b) (simp (add_assoc, add_left_comm b (⊖ a) (⊖ b), add_neg_cancel_left) (add_neg b)))

  pub mul_zero : (a : R) → a ⊗ 𝟘 ≡ 𝟘
  mul_zero a = add_left_cancel (a ⊗ 𝟘) (a ⊗ 𝟘) 𝟘 (sym (left_distrib a 𝟘 𝟘) ∙ ap (λ x. a ⊗ x) (zero_add 𝟘) ∙ sym (add_zero (a ⊗ 𝟘)))

  pub zero_mul : (a : R) → 𝟘 ⊗ a ≡ 𝟘
  zero_mul a = mul_comm 𝟘 a ∙ mul_zero a

  pub mul_neg : (a b : R) → a ⊗ ⊖ b ≡ ⊖ (a ⊗ b)
  mul_neg a b = neg_unique (a ⊗ b) (a ⊗ ⊖ b) (sym (left_distrib a b (⊖ b)) ∙ ap (λ x. a ⊗ x) (add_neg b) ∙ mul_zero a)

  pub neg_mul : (a b : R) → (⊖ a) ⊗ b ≡ ⊖ (a ⊗ b)
  neg_mul a b = mul_comm (⊖ a) b ∙ mul_neg b a ∙ ap ⊖◌ (mul_comm b a)

  pub neg_one_mul : (x : R) → (⊖ 𝟙) ⊗ x ≡ ⊖ x
  neg_one_mul x = neg_mul 𝟙 x ∙ ap ⊖◌ (one_mul x)

  pub neg_one_square : (⊖ 𝟙) ⊗ (⊖ 𝟙) ≡ 𝟙
  neg_one_square = neg_one_mul (⊖ 𝟙) ∙ neg_neg 𝟙

  -- two inverses of one value
  pub inverse_unique : (p q r : R) → p ⊗ q ≡ 𝟙 → r ⊗ q ≡ 𝟙 → p ≡ r
  inverse_unique p q r f g = sym (mul_one p) ∙ ap (λ y. p ⊗ y) (sym g) ∙ mul_left_comm p r q ∙ ap (λ y. r ⊗ y) f ∙ mul_one r

  -- where 2 has an inverse, zero alone is its own negative
  pub self_neg : (half : R) → half ⊗ (𝟙 ⊕ 𝟙) ≡ 𝟙 → (x : R) → x ≡ ⊖ x → x ≡ 𝟘
  self_neg half halves x e = sym (one_mul x) ∙ ap (λ y. y ⊗ x) (sym halves) ∙ mul_assoc half _ x ∙ ap (λ y. half ⊗ y) (right_distrib 𝟙 𝟙 x ∙ rw one_mul (ap (λ y. x ⊕ y) e ∙ add_neg x)) ∙ mul_zero half

  ruleset ring_ac = (add_left_comm, mul_left_comm, right_distrib, neg_sum, neg_mul, mul_neg, neg_neg)

  pub pow_add : (x : R) (m n : ℕ) → pow 𝓞 x (m + n) ≡ pow 𝓞 x m ⊗ pow 𝓞 x n
  unfolding pow
  pow_add x zero n = rw N.zero-add (sym (one_mul (pow 𝓞 x n)))
  pow_add x (suc m) n = rw N.suc-add (ap (λ y. x ⊗ y) (pow_add x m n) ∙ sym (mul_assoc x (pow 𝓞 x m) (pow 𝓞 x n)))

  pub cast_add : (m n : ℕ) → cast 𝓞 (m + n) ≡ cast 𝓞 m ⊕ cast 𝓞 n
  unfolding cast
  cast_add zero n = rw N.zero-add (sym (zero_add (cast 𝓞 n)))
  cast_add (suc m) n = rw N.suc-add (ap (λ y. 𝟙 ⊕ y) (cast_add m n) ∙ sym (add_assoc 𝟙 (cast 𝓞 m) (cast 𝓞 n)))

  pub cast_mul : (m n : ℕ) → cast 𝓞 (m * n) ≡ cast 𝓞 m ⊗ cast 𝓞 n
  unfolding cast
  cast_mul zero n = rw N.zero-mul (sym (zero_mul (cast 𝓞 n)))
  cast_mul (suc m) n = rw (N.suc-mul, cast_add, cast_mul m n, right_distrib, one_mul) (add_comm _ _)
