-- A conjugation goes through powers, numerals, sums and transforms.
use mathlib.Core.Path.{◌≡◌, sym, ◌∙◌, ap, ap₂}
use Prim.Native.Nat.{ℕ, zero, suc, ◌*◌}
use Rattle.algebra.specs.ring.Ring.{Ops, pow, sum, dft}
use Rattle.algebra.specs.fourier.Axis.{cast}
use Rattle.algebra.specs.ring.RingLaws.{CRing, Star}
use Rattle.algebra.proofs.ring.Laws.{add_left_cancel, add_zero, inverse_unique}
use Rattle.algebra.proofs.fourier.Sums.{sum_cong}

module _ {R : Type 0} {𝓞 : Ops R} {conj : R → R} {i : R} (𝓡 : CRing 𝓞) (𝓢 : Star 𝓞 conj i) where
  open 𝓞 use {add as ◌⊕◌, mul as ◌⊗◌, neg as ⊖◌, zer as 𝟘, one as 𝟙}
  open 𝓡 use {zero_add}
  open 𝓢 use {conj_add, conj_mul, conj_neg, conj_one}

  infixl 65 ◌⊕◌
  infixl 70 ◌⊗◌
  infix 75 ⊖◌
  pub conj_zero : conj 𝟘 ≡ 𝟘
  conj_zero = add_left_cancel 𝓡 (conj 𝟘) (conj 𝟘) 𝟘 (sym (conj_add 𝟘 𝟘) ∙ ap conj (zero_add 𝟘) ∙ sym (add_zero 𝓡 (conj 𝟘)))

  pub conj_pow : (x : R) (n : ℕ) → conj (pow 𝓞 x n) ≡ pow 𝓞 (conj x) n
  unfolding pow
  conj_pow x zero = conj_one
  conj_pow x (suc n) = conj_mul x (pow 𝓞 x n) ∙ ap (λ y. conj x ⊗ y) (conj_pow x n)

  pub conj_sign : (t : ℕ) → conj (pow 𝓞 (⊖ 𝟙) t) ≡ pow 𝓞 (⊖ 𝟙) t
  conj_sign t = conj_pow (⊖ 𝟙) t ∙ ap (λ y. pow 𝓞 y t) (conj_neg 𝟙 ∙ ap ⊖◌ conj_one)

  pub conj_cast : (n : ℕ) → conj (cast 𝓞 n) ≡ cast 𝓞 n
  unfolding cast
  conj_cast zero = conj_zero
  conj_cast (suc n) = conj_add 𝟙 (cast 𝓞 n) ∙ ap₂ ◌⊕◌ conj_one (conj_cast n)

  -- the inverse of a real value is real
  pub conj_of_inverse : (p q : R) → conj q ≡ q → p ⊗ q ≡ 𝟙 → conj p ≡ p
  conj_of_inverse p q r e = inverse_unique 𝓡 _ q _ (ap (λ y. conj p ⊗ y) (sym r) ∙ sym (conj_mul p q) ∙ ap conj e ∙ conj_one) e

  pub conj_sum : (n : ℕ) (f : ℕ → R) → conj (sum 𝓞 n f) ≡ sum 𝓞 n (λ t. conj (f t))
  unfolding sum
  conj_sum zero f = conj_zero
  conj_sum (suc n) f = conj_add (sum 𝓞 n f) (f n) ∙ ap (λ y. y ⊕ conj (f n)) (conj_sum n f)

  pub conj_dft : (n : ℕ) (w : R) (X : ℕ → R) (s : ℕ) → conj (dft 𝓞 n w X s) ≡ dft 𝓞 n (conj w) (λ t. conj (X t)) s
  unfolding dft
  conj_dft n w X s = conj_sum n _ ∙ sum_cong 𝓡 n _ _ (λ t h. conj_mul (X t) _ ∙ ap (λ y. conj (X t) ⊗ y) (conj_pow w (t * s)))
