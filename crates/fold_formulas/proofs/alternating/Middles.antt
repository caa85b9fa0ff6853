-- The middle of an alternating line: a value of one number only, real or imaginary.
use mathlib.Core.Path.{◌≡◌, refl, sym, ◌∙◌, ap}
use Prim.Native.Nat.{ℕ, zero, suc, ◌%◌, ◌<◌}
use native.Mathlib.Omega.{arith}
use Rattle.algebra.specs.ring.Ring.{Ops, residues}
use Rattle.algebra.specs.ring.RingLaws.{CRing}
use Rattle.algebra.specs.lines.Kinds.{unit}
use Rattle.algebra.proofs.ring.Laws.{neg_zero}
use Rattle.numbers.specs.Value.{prime, Value, field, conj, i, real, half, pair_of, on_values}
use Rattle.numbers.specs.Bounds.{res}
use Rattle.numbers.specs.Value as Value
use Rattle.numbers.proofs.Residues.{res_ring, val_res}
use Rattle.numbers.proofs.Primes.{prime_pos}
use Rattle.numbers.proofs.Values.{field_ring, pair_path, i_times}

-- ---- the ring: 1 for even n, i for odd n

module _ {R : Type 0} (𝓞 : Ops R) (conj : R → R) (i half : R) (A : ℕ) where
  pub unit_even : (n : ℕ) → n % 2 ≡ 0 → unit 𝓞 conj i half A n ≡ 𝓞.one
  unfolding unit
  unit_even zero e = refl
  unit_even (suc zero) e = absurd (omega arith)
  unit_even (suc (suc n)) e = unit_even n (omega arith)

  pub unit_odd : (n : ℕ) → (n % 2 ≡ 0 → ⊥) → unit 𝓞 conj i half A n ≡ i
  unfolding unit
  unit_odd zero e = absurd (e refl)
  unit_odd (suc zero) e = refl
  unit_odd (suc (suc n)) e = unit_odd n (λ h. e (omega arith))

-- the number 0 stands for the residue 0
zero_val : (m : ℕ) → 0 ≡ (res m 0).val
zero_val m = sym (val_res m (prime_pos m))

-- a value of one number only
pub real_pair : (m : ℕ) (z : Value m) (x : ℕ) → x < prime m → z ≡ real m (res m x) → record { re = x; im = 0 } ≡ pair_of z
unfolding pair_of
real_pair m z x l e = pair_path (sym (val_res m l)) (zero_val m) ∙ ap pair_of (sym e)

imaginary_pair : (m : ℕ) (z : Value m) (x : ℕ) → x < prime m → z ≡ (field m).mul (i m) (real m (res m x)) → record { re = 0; im = x } ≡ pair_of z
unfolding pair_of residues
imaginary_pair m z x l e = pair_path (zero_val m) (sym (val_res m l)) ∙ ap pair_of (sym (e ∙ i_times m _ ∙ ap (λ y. (y, res m x)) nought))
  where
    nought : (Value.ring m).neg (res m 0) ≡ res m 0
    nought = neg_zero (res_ring m)

module _ (m A x : ℕ) (l : x < prime m) where
  pub middle_even : A % 2 ≡ 0 → record { re = x; im = 0 } ≡ pair_of ((field m).mul (on_values m unit A A) (real m (res m x)))
  middle_even h =
      real_pair m _ x l (ap (λ y. (field m).mul y (real m (res m x))) (unit_even (field m) (conj m) (i m) (real m (half m)) A A h) ∙ (field_ring m).one_mul _)

  pub middle_odd : (A % 2 ≡ 0 → ⊥) → record { re = 0; im = x } ≡ pair_of ((field m).mul (on_values m unit A A) (real m (res m x)))
  middle_odd h = imaginary_pair m _ x l (ap (λ y. (field m).mul y (real m (res m x))) (unit_odd (field m) (conj m) (i m) (real m (half m)) A A h))
