-- The residues modulo p are a commutative ring, and numbers to residues is a homomorphism.
use mathlib.Core.Path.{◌≡◌, sym, ◌∙◌, ap}
use mathlib.Core.HLevel.{is_prop→PathP}
use Prim.Native.Nat.{ℕ, zero, suc, ◌+◌, ◌*◌, ◌-◌, ◌%◌, ◌≤◌, ◌<◌}
use native.Mathlib.Nat as N
use native.Mathlib.Nat.{ℕ_set}
use Rattle.algebra.specs.ring.RingLaws.{CRing}
use Rattle.algebra.specs.ring.Ring.{Res, residue, residues}

-- a remainder may stand for its number in a product
pub mul_mod_mod : (a b p : ℕ) → (a * (b % p)) % p ≡ (a * b) % p
mul_mod_mod zero b p = rw (N.zero-mul, N.zero-mul)
mul_mod_mod (suc a) b p = rw (N.suc-mul, N.suc-mul) (N.add-mod-mod _ b p ∙ N.add-mod _ _ p ∙ ap (λ y. (y + b % p) % p) (mul_mod_mod a b p) ∙ sym (N.add-mod (a * b) b p))

pub mod_mul_mod : (a b p : ℕ) → ((a % p) * b) % p ≡ (a * b) % p
mod_mul_mod a b p = rw (N.mul_comm (a % p) b, N.mul_comm a b) (mul_mod_mod b a p)

pub mul_mod : (a b p : ℕ) → (a * b) % p ≡ ((a % p) * (b % p)) % p
mul_mod a b p = sym (mod_mul_mod a b p) ∙ sym (mul_mod_mod (a % p) b p)

-- residues are equal by their numbers
pub val_path : {p : ℕ} {a b : Res p} → a.val ≡ b.val → a ≡ b
val_path {p} {a} {b} h = λ i. record {
  val = h i;
  norm = is_prop→PathP (λ i. h i % p ≡ h i) (λ i. ℕ_set (h i % p) (h i)) a.norm b.norm i;
}

module _ (p : ℕ) where
  pub residue_val : (a : Res p) → residue p a.val ≡ a
  unfolding residue
  residue_val a = val_path a.norm

  pub val_residue : (x : ℕ) → x < p → (residue p x).val ≡ x
  unfolding residue
  val_residue x h = N.mod-eq_of_lt h

  pub val_below : 0 < p → (a : Res p) → a.val < p
  val_below h a = rw (← a.norm) (N.mod-lt a.val h)

  pub residue_mod : (x : ℕ) → residue p (x % p) ≡ residue p x
  unfolding residue
  residue_mod x = val_path (N.mod-mod x p)

  pub residue_add : (x y : ℕ) → residue p (x + y) ≡ (residues p).add (residue p x) (residue p y)
  unfolding residues residue
  residue_add x y = val_path (N.add-mod x y p)

  pub residue_mul : (x y : ℕ) → residue p (x * y) ≡ (residues p).mul (residue p x) (residue p y)
  unfolding residues residue
  residue_mul x y = val_path (mul_mod x y p)

  pub residue_neg : (x : ℕ) → x < p → residue p (p - x) ≡ (residues p).neg (residue p x)
  unfolding residues residue
  residue_neg x h = ap (λ n. residue p (p - n)) (sym (N.mod-eq_of_lt h))

  pub residue_less : (x : ℕ) → p ≤ x → residue p (x - p) ≡ residue p x
  unfolding residue
  residue_less x h = val_path (sym (N.mod-eq-sub-mod h))

  pub residue_ring : 0 < p → CRing (residues p)
  unfolding residues residue
  residue_ring pos = record {
    add_assoc = λ x y z. val_path (N.mod-add-mod _ p _ ∙ ap (λ n. n % p) (N.add_assoc _ _ _) ∙ sym (N.add-mod-mod _ _ p));
    add_comm = λ x y. val_path (ap (λ n. n % p) (N.add_comm _ _));
    zero_add = λ x. val_path (N.mod-add-mod 0 p _ ∙ ap (λ n. n % p) (N.zero-add _) ∙ x.norm);
    neg_add = λ x. val_path (N.mod-add-mod _ p _ ∙ ap (λ n. n % p) (N.sub-add_cancel (N.le_of_lt (val_below pos x))) ∙ N.mod_self p ∙ sym (N.zero-mod p));
    mul_assoc = λ x y z. val_path (mod_mul_mod _ _ p ∙ ap (λ n. n % p) (N.mul_assoc _ _ _) ∙ sym (mul_mod_mod _ _ p));
    mul_comm = λ x y. val_path (ap (λ n. n % p) (N.mul_comm _ _));
    one_mul = λ x. val_path (mod_mul_mod 1 _ p ∙ ap (λ n. n % p) (N.one-mul _) ∙ x.norm);
    left_distrib = λ x y z. val_path (mul_mod_mod _ _ p ∙ ap (λ n. n % p) (N.mul-add _ _ _) ∙ N.add-mod _ _ p);
  }
