-- The octal digits of a number: the lowest and the others, and the number that they give back.
use mathlib.Core.Path.{◌≡◌, refl, ◌∙◌, ap}
use mathlib.Core.Bool.{Bool, cond}
use mathlib.Core.List.{List, [], ◌∷◌}
use Prim.Native.Nat.{ℕ, zero, suc, ◌+◌, ◌*◌, ◌/◌, ◌%◌, ◌≤◌}
use native.Mathlib.Nat.{not-suc-le-zero}
use native.Mathlib.Omega.{arith}
use lib.Dec.{eqb}
use borrow.Author.Tests.{ne_eqb}
use Rattle.lengths.specs.Lengths.{octal, digits, octal_digits}

-- more digits than the number has are not taken
digits_enough : (c d n : ℕ) → n ≤ c → n ≤ d → digits 8 c n ≡ digits 8 d n
unfolding digits
digits_enough zero zero n h k = refl
digits_enough zero (suc d) zero h k = refl
digits_enough zero (suc d) (suc n) h k = absurd (not-suc-le-zero h)
digits_enough (suc c) zero zero h k = refl
digits_enough (suc c) zero (suc n) h k = absurd (not-suc-le-zero k)
digits_enough (suc c) (suc d) n h k =
    let e : digits 8 c (n / 8) ≡ digits 8 d (n / 8) = digits_enough c d (n / 8) (omega arith) (omega arith) in
    ap (λ (t : List ℕ). cond (eqb n 0) [] (n % 8 ∷ t)) e

-- the lowest digit and the others
pub digit_cons : (n : ℕ) → (n ≡ 0 → ⊥) → octal_digits n ≡ n % 8 ∷ octal_digits (n / 8)
unfolding digits
digit_cons zero h = absurd (h refl)
digit_cons (suc m) h =
    let e : digits 8 m (suc m / 8) ≡ octal_digits (suc m / 8) = digits_enough m (suc m / 8) (suc m / 8) (omega arith) (omega arith) in
    ap (λ (b : Bool). cond b [] (suc m % 8 ∷ digits 8 m (suc m / 8))) (ne_eqb (suc m) 0 h) ∙ ap (λ (t : List ℕ). suc m % 8 ∷ t) e

-- ---- the digits of a number give it back

octal_of_count : (c n : ℕ) → n ≤ c → octal (digits 8 c n) ≡ n
unfolding digits octal
octal_of_count zero zero h = refl
octal_of_count zero (suc n) h = absurd (not-suc-le-zero h)
octal_of_count (suc c) zero h = refl
octal_of_count (suc c) (suc n) h =
    let e : octal (digits 8 c (suc n / 8)) ≡ suc n / 8 = octal_of_count c (suc n / 8) (omega arith) in
    let f : suc n % 8 + 8 * octal (digits 8 c (suc n / 8)) ≡ suc n = omega (arith, e) in
    ap (λ (b : Bool). octal (cond b [] (suc n % 8 ∷ digits 8 c (suc n / 8)))) (ne_eqb (suc n) 0 (not_zero n)) ∙ f
  where
    not_zero : (n : ℕ) → suc n ≡ 0 → ⊥
    not_zero n q = omega arith

pub octal_of_digits : (n : ℕ) → octal (octal_digits n) ≡ n
octal_of_digits n = octal_of_count n n (omega arith)
