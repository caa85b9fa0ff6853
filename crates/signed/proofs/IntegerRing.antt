-- The whole numbers are a commutative ring: the product is associative and distributes over the sum.
use mathlib.Core.Path.{◌≡◌, refl, sym, ◌∙◌, ap}
use Prim.Native.Nat.{ℕ, zero, suc, ◌*◌}
use lib.IntN.{+ℤ_invl, ℤ, pos, negsuc, neg_ℤ, suc_ℤ, pred_ℤ, ◌+ℤ◌, ◌*ℤ◌, +ℤ_assoc, +ℤ_comm, +ℤ_idl, suc_ℤ-+ℤ, pred_ℤ-+ℤ, suc_ℤ-*ℤ, pred_ℤ-*ℤ, zero-*ℤ, *ℤ_comm, neg_ℤ-neg_ℤ}
use Rattle.algebra.specs.ring.RingLaws.{CRing}
use Rattle.signed.specs.IntegerRing.{integers}

-- induction by successor and predecessor
pub by_steps : (P : ℤ → Type 0) → P (pos 0) → ((k : ℤ) → P k → P (suc_ℤ k)) → ((k : ℤ) → P k → P (pred_ℤ k)) → (k : ℤ) → P k
by_steps P z s p (pos zero) = z
by_steps P z s p (pos (suc n)) = s (pos n) (by_steps P z s p (pos n))
by_steps P z s p (negsuc zero) = p (pos 0) z
by_steps P z s p (negsuc (suc n)) = p (negsuc n) (by_steps P z s p (negsuc n))

-- (a + b) + c = (a + c) + b
swap : (a b c : ℤ) → (a +ℤ b) +ℤ c ≡ (a +ℤ c) +ℤ b
swap a b c = +ℤ_assoc a b c ∙ ap (λ x. a +ℤ x) (+ℤ_comm b c) ∙ sym (+ℤ_assoc a c b)

pub right_distrib : (b c a : ℤ) → (a +ℤ b) *ℤ c ≡ a *ℤ c +ℤ b *ℤ c
right_distrib b c = by_steps (λ a. (a +ℤ b) *ℤ c ≡ a *ℤ c +ℤ b *ℤ c)
    (ap (λ x. x *ℤ c) (+ℤ_idl b) ∙ sym (+ℤ_idl (b *ℤ c)) ∙ ap (λ x. x +ℤ b *ℤ c) (sym (zero-*ℤ c)))
    (λ k e. ap (λ x. x *ℤ c) (suc_ℤ-+ℤ k b) ∙ suc_ℤ-*ℤ (k +ℤ b) c ∙ ap (λ x. x +ℤ c) e ∙ swap (k *ℤ c) (b *ℤ c) c ∙ ap (λ x. x +ℤ b *ℤ c) (sym (suc_ℤ-*ℤ k c)))
    (λ k e. ap (λ x. x *ℤ c) (pred_ℤ-+ℤ k b) ∙ pred_ℤ-*ℤ (k +ℤ b) c ∙ ap (λ x. x +ℤ neg_ℤ c) e ∙ swap (k *ℤ c) (b *ℤ c) (neg_ℤ c) ∙ ap (λ x. x +ℤ b *ℤ c) (sym (pred_ℤ-*ℤ k c)))

neg_mul_pos : (n : ℕ) (c : ℤ) → neg_ℤ (pos n) *ℤ c ≡ neg_ℤ (pos n *ℤ c)
neg_mul_pos zero c = zero-*ℤ c ∙ ap neg_ℤ (sym (zero-*ℤ c))
neg_mul_pos (suc n) (pos m) = refl
neg_mul_pos (suc n) (negsuc m) = sym (neg_ℤ-neg_ℤ (pos (suc n * suc m)))

pub neg_mul : (a c : ℤ) → neg_ℤ a *ℤ c ≡ neg_ℤ (a *ℤ c)
neg_mul (pos n) c = neg_mul_pos n c
neg_mul (negsuc n) (pos m) = sym (neg_ℤ-neg_ℤ (pos (suc n * m)))
neg_mul (negsuc n) (negsuc m) = refl

pub mul_assoc : (b c a : ℤ) → (a *ℤ b) *ℤ c ≡ a *ℤ (b *ℤ c)
mul_assoc b c = by_steps (λ a. (a *ℤ b) *ℤ c ≡ a *ℤ (b *ℤ c))
    (ap (λ x. x *ℤ c) (zero-*ℤ b) ∙ zero-*ℤ c ∙ sym (zero-*ℤ (b *ℤ c)))
    (λ k e. ap (λ x. x *ℤ c) (suc_ℤ-*ℤ k b) ∙ right_distrib b c (k *ℤ b) ∙ ap (λ x. x +ℤ b *ℤ c) e ∙ sym (suc_ℤ-*ℤ k (b *ℤ c)))
    (λ k e. ap (λ x. x *ℤ c) (pred_ℤ-*ℤ k b) ∙ right_distrib (neg_ℤ b) c (k *ℤ b) ∙ (λ i. e i +ℤ neg_mul b c i) ∙ sym (pred_ℤ-*ℤ k (b *ℤ c)))

one_mul : (a : ℤ) → pos 1 *ℤ a ≡ a
one_mul a = suc_ℤ-*ℤ (pos 0) a ∙ ap (λ x. x +ℤ a) (zero-*ℤ a) ∙ +ℤ_idl a

pub integer_ring : CRing integers
unfolding integers
integer_ring = record {
  add_assoc = +ℤ_assoc;
  add_comm = +ℤ_comm;
  zero_add = +ℤ_idl;
  neg_add = +ℤ_invl;
  mul_assoc = λ a b c. mul_assoc b c a;
  mul_comm = *ℤ_comm;
  one_mul = one_mul;
  left_distrib = λ a b c. *ℤ_comm a (b +ℤ c) ∙ right_distrib c a b ∙ (λ i. *ℤ_comm b a i +ℤ *ℤ_comm c a i);
}
