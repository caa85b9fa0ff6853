-- Numbers in decimal: enough places are enough, and how long they are.
use mathlib.Core.Path.{◌≡◌, ap, sym, subst}
use mathlib.Core.Bool.{Bool, true, false, cond}
use mathlib.Core.List.{List, [], ◌∷◌, ◌++◌}
use Prim.Native.Nat.{ℕ, zero, suc, ◌+◌, ◌/◌, ◌%◌, ◌^◌, ◌<◌, ◌≤◌}
use native.Mathlib.Omega.{arith}
use lib.Dec.{ltb}
use lib.ListN.{length, length-append}
use borrow.Author.Tests.{lt-ltb, le-ltb, ltb-true}
use lib.Signed.{lt_z}
use native.Mathlib.Nat.{not-suc-le-zero}
use lib.Dec.{T}
use Rattle.signed.specs.Integers.{ℤ, pos, negsuc, nat_abs}
use Rattle.output.specs.Output.{digits_of, decimal, minus, signed_decimal}

-- one digit
pub decimal_one : (n : ℕ) → n < 10 → decimal n ≡ (48 + n) ∷ []
unfolding digits_of
decimal_one n h = rw (lt-ltb n 10 h)

-- one place more than the number has digits changes nothing
more_places : (c n : ℕ) → n < 10 ^ suc c → digits_of (suc (suc c)) n ≡ digits_of (suc c) n
unfolding digits_of
more_places zero n h = rw (lt-ltb n 10 h)
more_places (suc c) n h = ap (λ (l : List ℕ). cond (ltb n 10) ((48 + n) ∷ []) (l ++ (48 + n % 10) ∷ [])) (more_places c (n / 10) (omega (arith, h)))

-- the digits before the last one, and the last
pub decimal_more : (n : ℕ) → 10 ≤ n → n < 18446744073709551616 → decimal n ≡ decimal (n / 10) ++ (48 + n % 10) ∷ []
unfolding digits_of
decimal_more n h k = rw (le-ltb n 10 h) (ap (λ (l : List ℕ). l ++ (48 + n % 10) ∷ []) (sym (more_places 18 (n / 10) (omega (arith, k)))))

-- at most twenty digits
digits_short : (c n : ℕ) → length (digits_of c n) ≤ c
unfolding digits_of
digits_short zero n = omega arith
digits_short (suc c) n = either (ltb n 10) (48 + n) (digits_of c (n / 10)) (48 + n % 10) (digits_short c (n / 10))
  where
    either : (b : Bool) (x : ℕ) (l : List ℕ) (y : ℕ) → length l ≤ c → length (cond b (x ∷ []) (l ++ y ∷ [])) ≤ suc c
    either true x l y h = omega arith
    either false x l y h = rw length-append (omega (arith, h))

pub decimal_short : (n : ℕ) → length (decimal n) ≤ 20
decimal_short n = digits_short 20 n

-- ---- whole numbers

pub signed_below : (n : ℤ) {size : ℕ} → lt_z n (pos 0) ≡ true → size ≡ nat_abs n → signed_decimal n ≡ minus ∷ decimal size
unfolding signed_decimal
signed_below (pos n) e h = absurd (not-suc-le-zero (ltb-true n 0 e))
signed_below (negsuc n) e h = ap (λ k. minus ∷ decimal k) (sym h)

pub signed_above : (n : ℤ) {size : ℕ} → lt_z n (pos 0) ≡ false → size ≡ nat_abs n → signed_decimal n ≡ decimal size
unfolding signed_decimal
signed_above (pos n) e h = ap decimal (sym h)
signed_above (negsuc n) e h = absurd (subst T e tt)

-- a minus and at most twenty digits
pub signed_short : (n : ℤ) → length (signed_decimal n) ≤ 21
unfolding signed_decimal
signed_short (pos n) = omega (arith, decimal_short n)
signed_short (negsuc n) = omega (arith, decimal_short (suc n))
