-- A multiple of the prime makes x a multiple of 2^32: 86,399 * 743,674,241 + 1 and 302,399 * 2,496,671,041 + 1 are multiples of it.
use mathlib.Core.Path.{◌≡◌, sym, ◌∙◌, ap₂, subst}
use mathlib.Core.Bool.{Bool, true, false, cond}
use Prim.Native.Nat.{ℕ, ◌+◌, ◌*◌, ◌-◌, ◌/◌, ◌%◌, ◌<◌, ◌≤◌}
use native.Mathlib.Nat.{mod-lt, mul-le-mul_left, mul-le-mul, mul_comm}
use native.Mathlib.Omega.{arith}
use lib.Dec.{eqb}
use Rattle.numbers.specs.Value.{prime}
use Rattle.batches.specs.Reduction.{Divided, minus_inverse}

first_whole : (l : ℕ) → l + 86399 * (l * 743674241 % 4294967296) ≡ 4294967296 * (14960 * l - 86399 * (l * 743674241 / 4294967296))
first_whole l = omega arith

second_whole : (l : ℕ) → l + 302399 * (l * 2496671041 % 4294967296) ≡ 4294967296 * (175785 * l - 302399 * (l * 2496671041 / 4294967296))
second_whole l = omega arith

exact : (p n x k : ℕ) → x % 4294967296 + p * (x % 4294967296 * n % 4294967296) ≡ 4294967296 * k
    → 4294967296 * ((x + x % 4294967296 * n % 4294967296 * p) / 4294967296) ≡ x + p * (x % 4294967296 * n % 4294967296)
exact p n x k h = omega (arith, h, mul_comm p (x % 4294967296 * n % 4294967296))

at_choice : (b : Bool) (x : ℕ) → 4294967296 * ((x + x % 4294967296 * cond b 743674241 2496671041 % 4294967296 * cond b 86399 302399) / 4294967296)
    ≡ x + cond b 86399 302399 * (x % 4294967296 * cond b 743674241 2496671041 % 4294967296)
at_choice true x = exact 86399 743674241 x _ (first_whole (x % 4294967296))
at_choice false x = exact 302399 2496671041 x _ (second_whole (x % 4294967296))

-- the multiple that is added
abbrev multiple : (m x : ℕ) → ℕ
multiple m x = x % 4294967296 * minus_inverse m % 4294967296

pub made_whole : (m x : ℕ) → 4294967296 * ((x + multiple m x * prime m) / 4294967296) ≡ x + prime m * multiple m x
unfolding prime minus_inverse
made_whole m x = at_choice (eqb m 1) x

multiple_low : (m x : ℕ) → multiple m x < 4294967296
multiple_low m x = mod-lt (x % 4294967296 * minus_inverse m) (omega arith)

pub divided_by : (m x : ℕ) → x < prime m * 4294967296 → Divided m x ((x + multiple m x * prime m) / 4294967296)
divided_by m x h = record {
  low = omega (arith, made_whole m x, mul-le-mul_left (prime m) (low_le (multiple_low m x)));
  times = multiple m x;
  is = made_whole m x;
}
  where
    low_le : {i n : ℕ} → i < n → i ≤ n
    low_le l = omega arith

-- as the code has it
pub divided_as : {m x p n r : ℕ} → p ≡ prime m → n ≡ minus_inverse m → x < prime m * 4294967296 → r ≡ (x + x % 4294967296 * n % 4294967296 * p) / 4294967296 → Divided m x r
divided_as {m} {x} e f h is = subst (Divided m x) (sym (is ∙ ap₂ (λ n p. (x + x % 4294967296 * n % 4294967296 * p) / 4294967296) f e)) (divided_by m x h)

pub product_most : {p a c b : ℕ} → c ≤ p → a ≤ b → c * a ≤ p * b
product_most h l = mul-le-mul h l
