-- How wide a number is, that a right-aligned one is as wide as its field, and that none has a line feed in it.
use mathlib.Core.Path.{◌≡◌, refl, ◌∙◌}
use mathlib.Core.Bool.{Bool, true, false, cond}
use mathlib.Core.List.{List, [], ◌∷◌, ◌++◌}
use Prim.Native.Nat.{ℕ, zero, suc, ◌+◌, ◌*◌, ◌-◌, ◌/◌, ◌%◌, ◌^◌, ◌<◌, ◌≤◌}
use native.Mathlib.Omega.{arith}
use lib.Dec.{ltb}
use lib.ListN.{length, get_or, replicate, length-append, length-replicate}
use lib.IntN.{ℤ, pos, negsuc, nat_abs}
use borrow.Author.Tests.{ltb-false}
use Rattle.output.specs.Output.{digits_of, decimal, signed_decimal, minus, blank, line_feed, each}
use Rattle.output.proofs.Decimals.{signed_short}
use Rattle.combined.specs.CombinedMap.{limit}
use Rattle.section.specs.Section.{aligned}

-- ---- widths

-- a digit, or those before the last and the last: b says which
narrower : (b : Bool) (x k : ℕ) (l : List ℕ) (y : ℕ) → (b ≡ false → suc (length l) ≤ suc k) → length (cond b (x ∷ []) (l ++ y ∷ [])) ≤ suc k
narrower true x k l y h = omega arith
narrower false x k l y h = rw length-append (omega (arith, h refl))

-- a number below 10 ^ (k + 1) has at most k + 1 digits
digits_narrow : (c k n : ℕ) → n < 10 ^ suc k → length (digits_of c n) ≤ suc k
unfolding digits_of
digits_narrow zero k n l = omega arith
digits_narrow (suc c) zero n l = narrower (ltb n 10) (48 + n) 0 (digits_of c (n / 10)) (48 + n % 10) (λ e. absurd (omega (arith, l, ltb-false n 10 e)))
digits_narrow (suc c) (suc k) n l = narrower (ltb n 10) (48 + n) (suc k) (digits_of c (n / 10)) (48 + n % 10) (λ e. omega (arith, digits_narrow c k (n / 10) (omega (arith, l))))

pub index_narrow : (x : ℕ) → x < 10000 → length (decimal x) ≤ 4
index_narrow x l = digits_narrow 20 3 x l

-- a number of a combined map: eleven digits and a sign
pub count_narrow : (z : ℤ) → nat_abs z ≤ limit → length (signed_decimal z) ≤ 13
unfolding signed_decimal
count_narrow (pos n) l = omega (arith, digits_narrow 20 10 n (omega (arith, l)))
count_narrow (negsuc n) l = omega (arith, digits_narrow 20 10 (suc n) (omega (arith, l)))

pub total_narrow : (z : ℤ) → length (signed_decimal z) ≤ 68
total_narrow z = omega (arith, signed_short z)

pub aligned_wide : (width : ℕ) (text : List ℕ) → length text ≤ width → length (aligned width text) ≡ width
aligned_wide width text l = length-append (replicate (width - length text) blank) text ∙ omega (arith, length-replicate {A = ℕ} (width - length text) blank, l)

pub each_wide : (f : ℕ → List ℕ) (k n : ℕ) → ((y : ℕ) → y < n → length (f y) ≡ k) → length (each n f) ≡ n * k
unfolding each
each_wide f k zero h = omega arith
each_wide f k (suc n) h = length-append (each n f) (f n) ∙ omega (arith, each_wide f k n (λ y l. h y (omega arith)), h n (omega arith))

-- ---- no line feed

pub record Plain (text : List ℕ) : Type 0 where
  pub at : (k : ℕ) → get_or text k 0 ≡ line_feed → ⊥

plain_none : Plain []
plain_none = record { at = λ k e. absurd (omega (arith, e)) }

pub plain_more : (b : ℕ) (text : List ℕ) → (b ≡ line_feed → ⊥) → Plain text → Plain (b ∷ text)
plain_more b text h p = record { at = go }
  where
    go : (k : ℕ) → get_or (b ∷ text) k 0 ≡ line_feed → ⊥
    go zero e = h e
    go (suc k) e = p.at k e

pub plain_append : (s t : List ℕ) → Plain s → Plain t → Plain (s ++ t)
plain_append [] t p q = q
plain_append (b ∷ s) t p q = plain_more b (s ++ t) (p.at 0) (plain_append s t (record { at = λ k. p.at (suc k) }) q)

pub plain_blanks : (n : ℕ) → Plain (replicate n blank)
plain_blanks zero = plain_none
plain_blanks (suc n) = plain_more blank (replicate n blank) (λ e. absurd (omega (arith, e))) (plain_blanks n)

plain_one : (d : ℕ) → Plain ((48 + d) ∷ [])
plain_one d = plain_more (48 + d) [] (λ e. absurd (omega (arith, e))) plain_none

plain_digits : (c n : ℕ) → Plain (digits_of c n)
unfolding digits_of
plain_digits zero n = plain_none
plain_digits (suc c) n = either (ltb n 10) (plain_digits c (n / 10))
  where
    either : (b : Bool) → Plain (digits_of c (n / 10)) → Plain (cond b ((48 + n) ∷ []) (digits_of c (n / 10) ++ (48 + n % 10) ∷ []))
    either true p = plain_one n
    either false p = plain_append (digits_of c (n / 10)) ((48 + n % 10) ∷ []) p (plain_one (n % 10))

pub plain_decimal : (n : ℕ) → Plain (decimal n)
plain_decimal n = plain_digits 20 n

pub plain_signed : (z : ℤ) → Plain (signed_decimal z)
unfolding signed_decimal
plain_signed (pos n) = plain_decimal n
plain_signed (negsuc n) = plain_more minus (decimal (suc n)) (λ e. absurd (omega (arith, e))) (plain_decimal (suc n))

pub plain_aligned : (width : ℕ) (text : List ℕ) → Plain text → Plain (aligned width text)
plain_aligned width text p = plain_append (replicate (width - length text) blank) text (plain_blanks (width - length text)) p

pub plain_each : (f : ℕ → List ℕ) (n : ℕ) → ((y : ℕ) → Plain (f y)) → Plain (each n f)
unfolding each
plain_each f zero h = plain_none
plain_each f (suc n) h = plain_append (each n f) (f n) (plain_each f n h) (h n)
