-- How many octal digits a number has.
use mathlib.Core.Path.{◌≡◌, refl, ap}
use mathlib.Core.List.{[]}
use Prim.Native.Nat.{ℕ, zero, suc, ◌/◌, ◌^◌, ◌<◌, ◌≤◌}
use native.Mathlib.Omega.{arith}
use lib.ListN.{length}
use Rattle.lengths.specs.Lengths.{digits, octal_digits}
use Rattle.lengths.proofs.Digits.{digit_cons}

pub no_digits : (n : ℕ) → n ≡ 0 → octal_digits n ≡ []
unfolding digits
no_digits n e = ap octal_digits e

pub digit_more : (n : ℕ) → (n ≡ 0 → ⊥) → length (octal_digits n) ≡ suc (length (octal_digits (n / 8)))
digit_more n z = ap length (digit_cons n z)

pub digit_none : (n : ℕ) → n ≡ 0 → length (octal_digits n) ≡ 0
digit_none n e = ap length (no_digits n e)

-- a number below 8 ^ k has at most k digits
few_digits : (k n : ℕ) → n < 8 ^ k → length (octal_digits n) ≤ k
few_digits zero n h = omega (arith, digit_none n (omega arith))
few_digits (suc k) zero h = omega (arith, digit_none 0 refl)
few_digits (suc k) (suc n) h = omega (arith, digit_more (suc n) (omega arith), few_digits k (suc n / 8) (below k (suc n) h))
  where
    below : (k n : ℕ) → n < 8 ^ suc k → n / 8 < 8 ^ k
    below k n h = omega arith

pub word_digits : (n : ℕ) → n < 4294967296 → length (octal_digits n) ≤ 11
word_digits n h = few_digits 11 n (omega arith)
