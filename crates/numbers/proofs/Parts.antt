-- 1/N for each N that divides 2,880: (p + 1)/N, where p + 1 = 2,880 c. One half is the case N = 2.
use mathlib.Core.Path.{◌≡◌, refl, sym, ◌∙◌, ap}
use Prim.Native.Nat.{ℕ, zero, suc, ◌+◌, ◌*◌, ◌-◌, ◌/◌, ◌%◌, ◌<◌, ◌≤◌}
use native.Mathlib.Nat as Nat
use native.Mathlib.Omega.{arith}
use Rattle.algebra.specs.ring.Ring.{Ops, residue, residues, gauss}
use Rattle.algebra.specs.fourier.Axis.{cast}
use Rattle.algebra.specs.ring.RingLaws.{CRing}
use Rattle.algebra.specs.lines.Kinds.{re, im}
use Rattle.algebra.proofs.ring.Laws.{along, mul_zero}
use Rattle.algebra.proofs.ring.ResidueRing.{residue_add, residue_mul}
use Rattle.algebra.proofs.lines.Parts.{half_gauss, re_gauss, im_gauss}
use Rattle.numbers.specs.Value.{prime, exponent, Value, ring, field, conj, i, real, half, part}
use Rattle.numbers.specs.Bounds.{res}
use Rattle.numbers.proofs.Primes.{prime_least, prime_next, prime_half}
use Rattle.numbers.proofs.Residues.{residue_above, residue_cast, half_of, res_ring, val_res}
use Rattle.numbers.proofs.Values.{value_path, real_times}

-- over any p: p + 1 counts as 1, so its N-th part is the inverse of N
pub part_of : (p N q : ℕ) → 0 < N → p + 1 ≡ N * q → (residues p).mul (residue p ((p + 1) / N)) (residue p N) ≡ residue p 1
part_of p N q h e =
    sym (residue_mul p ((p + 1) / N) N)
    ∙ along (residue p) ((p + 1) / N * N) (1 + p) (ap (λ x. x * N) (Nat.div-eq_of_eq-mul_right h e) ∙ Nat.mul_comm q N ∙ sym e ∙ Nat.add_comm p 1)
    ∙ residue_above p 1

-- a numeral of the values is real
cast_real : {R : Type 0} {𝓞 : Ops R} (𝓡 : CRing 𝓞) (n : ℕ) → cast (gauss 𝓞) n ≡ (cast 𝓞 n, 𝓞.zer)
unfolding gauss cast
cast_real 𝓡 zero = refl
cast_real {𝓞 = 𝓞} 𝓡 (suc n) = ap ((gauss 𝓞).add (gauss 𝓞).one) (cast_real 𝓡 n) ∙ value_path refl (𝓡.zero_add _)

pub part_residue : (m N k : ℕ) → N * k ≡ 2880 → (ring m).mul (part m N) (res m N) ≡ res m 1
unfolding part
part_residue m N k e = part_of (prime m) N (k * exponent m) (positive N e) next
  where
    positive : (n : ℕ) → n * k ≡ 2880 → 0 < n
    positive zero h = absurd (omega arith)
    positive (suc n) h = omega arith

    next : prime m + 1 ≡ N * (k * exponent m)
    next = prime_next m ∙ ap (λ x. x * exponent m) (sym e) ∙ Nat.mul_assoc N k (exponent m)

pub part_law : (m N k : ℕ) → N * k ≡ 2880 → (field m).mul (real m (part m N)) (cast (field m) N) ≡ (field m).one
unfolding gauss residues
part_law m N k e =
    real_times m (part m N) (cast (field m) N)
    ∙ ap (λ z. ((ring m).mul (part m N) z.0, (ring m).mul (part m N) z.1)) (cast_real (res_ring m) N)
    ∙ value_path
    (ap ((ring m).mul (part m N)) (residue_cast (prime m) N) ∙ part_residue m N k e)
    (mul_zero (res_ring m) (part m N))

pub half_residue : (m : ℕ) → (ring m).mul (half m) ((ring m).add (ring m).one (ring m).one) ≡ (ring m).one
unfolding half part residues
half_residue m = ap ((ring m).mul (half m)) (sym (residue_add (prime m) 1 1)) ∙ part_residue m 2 1440 refl

pub half_law : (m : ℕ) → (field m).mul (real m (half m)) ((field m).add (field m).one (field m).one) ≡ (field m).one
unfolding residues
half_law m = half_gauss (res_ring m) (half m) (half_residue m)

-- the real and the imaginary part of a value, as the theory of lines writes them
pub re_value : (m : ℕ) (z : Value m) → re (field m) (conj m) (i m) (real m (half m)) z ≡ real m z.0
unfolding residues
re_value m z = re_gauss (res_ring m) (half m) (half_residue m) z

pub im_value : (m : ℕ) (z : Value m) → im (field m) (conj m) (i m) (real m (half m)) z ≡ real m z.1
unfolding residues
im_value m z = im_gauss (res_ring m) (half m) (half_residue m) z

-- what the code does: half of an even number, and of an odd one made even by the odd prime
pub halve_even : (m a : ℕ) → a < prime m → a % 2 ≡ 0 → a / 2 ≡ ((ring m).mul (half m) (res m a)).val
unfolding half
halve_even m a l e =
    half_of (prime m) ((prime m + 1) / 2) a (a / 2) (prime_half m) (omega arith) (along (residue (prime m)) (a / 2 + a / 2) a (omega arith))

pub halve_odd : (m a : ℕ) → a < prime m → (a % 2 ≡ 0 → ⊥) → (a + prime m) / 2 ≡ ((ring m).mul (half m) (res m a)).val
unfolding half
halve_odd m a l e =
    half_of (prime m) ((prime m + 1) / 2) a ((a + prime m) / 2) (prime_half m) (omega arith)
    (along (residue (prime m)) ((a + prime m) / 2 + (a + prime m) / 2) (a + prime m) (omega (arith, prime_half m)) ∙ residue_above (prime m) a)

-- (p + 1)/n is below p, so it is the residue that it stands for
pub part_below : (m n : ℕ) → 2 ≤ n → (prime m + 1) / n < prime m
part_below m n h = omega (arith, prime_least m, Nat.div-le_of_le-mul n {m = prime m + 1} {n = prime m - 1} bound)
  where
    bound : prime m + 1 ≤ n * (prime m - 1)
    bound = omega (arith, prime_least m, Nat.mul-le-mul h (Nat.le_refl (prime m - 1)))

pub part_number : (m n : ℕ) → 2 ≤ n → (prime m + 1) / n ≡ (part m n).val
unfolding part
part_number m n h = sym (val_res m (part_below m n h))
