-- A whole number as a value modulo the prime: the real value of its residue.
use mathlib.Core.Path.{◌≡◌, refl, sym, ◌∙◌, ap}
use Prim.Native.Nat.{ℕ, zero, suc, ◌+◌, ◌*◌, ◌-◌, ◌/◌, ◌%◌, ◌<◌}
use native.Mathlib.Nat.{mod-lt, div-add-mod', add-mul-mod_self_left}
use native.Mathlib.Omega.{arith}
use lib.IntN.{ℤ, pos, negsuc}
use Rattle.algebra.specs.ring.Ring.{Ops, Res, residue, residues, gauss}
use Rattle.algebra.specs.fourier.Axis.{cast}
use Rattle.algebra.proofs.ring.Laws.{along, neg_unique}
use Rattle.algebra.proofs.ring.ResidueRing.{val_path, residue_mod, residue_add}
use Rattle.numbers.specs.Value.{prime, ring, field, value, real}
use Rattle.numbers.specs.Bounds.{res}
use Rattle.numbers.proofs.Primes.{prime_pos}
use Rattle.numbers.proofs.Residues.{res_ring, residue_cast}
use Rattle.numbers.proofs.RealValues.{real_add, real_neg}
use Rattle.signed.specs.Integers.{residue_z}
use Rattle.signed.specs.IntegerRing.{numeral}

module _ (m : ℕ) where
  cast_parts : (n : ℕ) → cast (field m) n ≡ real m (cast (ring m) n)
  unfolding cast gauss residues
  cast_parts zero = refl
  cast_parts (suc n) = ap ((field m).add (field m).one) (cast_parts n) ∙ sym (real_add m (ring m).one (cast (ring m) n))

  pub cast_real : (n : ℕ) → cast (field m) n ≡ real m (res m n)
  cast_real n = cast_parts n ∙ ap (real m) (residue_cast (prime m) n)

  -- with n = q p + r: p - 1 - r and n + 1 are (1 + q) p
  whole_turns : (n : ℕ) → residue (prime m) (suc n + (prime m - suc (n % prime m))) ≡ (ring m).zer
  unfolding residue residues
  whole_turns n =
      let p = prime m in
      let low : n % p < p = mod-lt n (prime_pos m) in
      val_path (along (λ k. k % p) (suc n + (p - suc (n % p))) (0 + p * (1 + n / p)) (omega (arith, low, div-add-mod' n p)) ∙ add-mul-mod_self_left 0 p (1 + n / p))

  residue_negative : (n : ℕ) → res m (prime m - suc (n % prime m)) ≡ (ring m).neg (res m (suc n))
  residue_negative n = neg_unique (res_ring m) (res m (suc n)) (res m (prime m - suc (n % prime m))) (sym (residue_add (prime m) (suc n) (prime m - suc (n % prime m))) ∙ whole_turns n)

  pub numeral_value : (z : ℤ) → numeral (field m) z ≡ value m (residue_z (prime m) z) 0
  unfolding numeral residue_z
  numeral_value (pos n) = cast_real n ∙ ap (real m) (sym (residue_mod (prime m) n))
  numeral_value (negsuc n) = ap (field m).neg (cast_real (suc n)) ∙ sym (real_neg m (res m (suc n))) ∙ ap (real m) (sym (residue_negative n))

  pub residue_low : (z : ℤ) → residue_z (prime m) z < prime m
  unfolding residue_z
  residue_low (pos n) = mod-lt n (prime_pos m)
  residue_low (negsuc n) = omega (arith, prime_pos m)
