-- Residues modulo any p: what the code does with numbers below p (a sum that is reduced by one subtraction, a difference,
-- p - a, half of an even number) is the operation of the ring. The last section says what every caller needs at the prime that m chooses.
use mathlib.Core.Path.{◌≡◌, refl, sym, ◌∙◌, ap}
use Prim.Native.Nat.{ℕ, zero, suc, ◌+◌, ◌*◌, ◌-◌, ◌<◌, ◌≤◌}
use native.Mathlib.Nat as N
use native.Mathlib.Omega.{arith}
use Rattle.algebra.specs.ring.Ring.{Res, residue, residues}
use Rattle.algebra.specs.fourier.Axis.{cast}
use Rattle.algebra.specs.ring.RingLaws.{CRing}
use Rattle.algebra.proofs.ring.Laws.{along}
use Rattle.algebra.proofs.ring.ResidueRing.{val_path, residue_val, val_residue, val_below, residue_add, residue_mul, residue_neg, residue_less, residue_ring}
use Rattle.numbers.specs.Value.{prime, Residue, ring}
use Rattle.numbers.specs.Bounds.{res}
use Rattle.numbers.proofs.Primes.{prime_pos}

module _ (p : ℕ) where
  -- a number below p is the residue that it stands for
  stands_for : {a : Res p} (r : ℕ) → r < p → residue p r ≡ a → r ≡ a.val
  stands_for r h e = sym (val_residue p r h) ∙ ap (λ a. a.val) e

  pub residue_above : (x : ℕ) → residue p (x + p) ≡ residue p x
  unfolding residue
  residue_above x = val_path (N.add-mod_right x p)

  pub sum_below : (a b : ℕ) → a + b < p → a + b ≡ ((residues p).add (residue p a) (residue p b)).val
  sum_below a b h = stands_for (a + b) h (residue_add p a b)

  pub sum_above : (a b : ℕ) → a < p → b < p → p ≤ a + b → a - (p - b) ≡ ((residues p).add (residue p a) (residue p b)).val
  sum_above a b ha hb h = along (λ (n : ℕ). n) (a - (p - b)) (a + b - p) (omega arith) ∙ stands_for (a + b - p) (omega arith) (residue_less p (a + b) h ∙ residue_add p a b)

  residue_difference : (a b : ℕ) → b < p → residue p (a + (p - b)) ≡ (residues p).add (residue p a) ((residues p).neg (residue p b))
  residue_difference a b h = residue_add p a (p - b) ∙ ap ((residues p).add (residue p a)) (residue_neg p b h)

  pub difference_above : (a b : ℕ) → a < p → b ≤ a → a - b ≡ ((residues p).add (residue p a) ((residues p).neg (residue p b))).val
  difference_above a b ha h =
      stands_for (a - b) (omega arith)
      (sym (residue_above (a - b)) ∙ along (residue p) (a - b + p) (a + (p - b)) (omega arith) ∙ residue_difference a b (omega arith))

  pub difference_below : (a b : ℕ) → b < p → a < b → a + (p - b) ≡ ((residues p).add (residue p a) ((residues p).neg (residue p b))).val
  difference_below a b hb h = stands_for (a + (p - b)) (omega arith) (residue_difference a b hb)

  pub negation_zero : (a : ℕ) → 0 < p → a ≡ 0 → 0 ≡ ((residues p).neg (residue p a)).val
  negation_zero a h e =
      stands_for 0 h
      (sym (residue_above 0) ∙ along (residue p) (0 + p) (p - a) (omega arith) ∙ residue_neg p a (omega arith))

  pub negation_below : (a : ℕ) → a < p → (a ≡ 0 → ⊥) → p - a ≡ ((residues p).neg (residue p a)).val
  negation_below a h e = stands_for (p - a) (omega arith) (residue_neg p a h)

  -- the remainder of a whole product
  pub product_mod : (a b : ℕ) {x r : ℕ} → x ≡ a * b → r ≡ (residue p x).val → r ≡ ((residues p).mul (residue p a) (residue p b)).val
  product_mod a b e f = cc (residue_mul p a b)

  residue_many : (x : ℕ) → residue p (x + p * x) ≡ residue p x
  unfolding residue
  residue_many x = val_path (N.add-mul-mod_self_left x p x)

  -- p + 1 counts as 1, so h = (p + 1)/2 halves: h (c + c) = c
  pub half_of : (h a c : ℕ) → h + h ≡ p + 1 → c < p → residue p (c + c) ≡ residue p a → c ≡ ((residues p).mul (residue p h) (residue p a)).val
  half_of h a c e l q =
      stands_for c l
      (sym (residue_many c)
      ∙ along (residue p) (c + p * c) (h * (c + c)) (omega (arith, ap (λ x. x * c) e))
      ∙ residue_mul p h (c + c)
      ∙ ap ((residues p).mul (residue p h)) q)

  pub residue_cast : (n : ℕ) → cast (residues p) n ≡ residue p n
  unfolding cast residues
  residue_cast zero = refl
  residue_cast (suc n) =
      ap ((residues p).add (residue p 1)) (residue_cast n) ∙ sym (residue_add p 1 n) ∙ along (residue p) (1 + n) (suc n) (omega arith)

-- at the prime that m chooses
pub res_ring : (m : ℕ) → CRing (ring m)
res_ring m = residue_ring (prime m) (prime_pos m)

pub val_small : (m : ℕ) (x : Residue m) → x.val < prime m
val_small m x = val_below (prime m) (prime_pos m) x

pub res_val : (m : ℕ) (x : Residue m) → res m x.val ≡ x
res_val m x = residue_val (prime m) x

pub val_res : (m : ℕ) {x : ℕ} → x < prime m → (res m x).val ≡ x
val_res m h = val_residue (prime m) _ h

-- a number that the code holds for the residue a
pub below_by : (m : ℕ) {x : ℕ} (a : Residue m) → x ≡ a.val → x < prime m
below_by m a e = rw e (val_small m a)

pub res_by : (m : ℕ) {x : ℕ} (a : Residue m) → x ≡ a.val → res m x ≡ a
res_by m a e = rw e (res_val m a)
