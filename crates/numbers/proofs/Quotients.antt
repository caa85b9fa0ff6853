-- A quotient by the prime as a part of a product, and that part from the halves of both factors.
use mathlib.Core.Path.{◌≡◌, refl, ◌∙◌, ap, sym}
use Prim.Native.Nat.{ℕ, ◌+◌, ◌*◌, ◌-◌, ◌/◌, ◌%◌, ◌<◌, ◌≤◌}
use native.Mathlib.Nat as N
use native.Mathlib.Omega.{arith}
use Rattle.algebra.proofs.ring.Laws.{along}
use Rattle.numbers.specs.Value.{prime, IsModulus}
use Rattle.numbers.specs.Division.{scale}
use Rattle.numbers.proofs.ModulusCases.{by_modulus}

-- ---- the high part of a product

-- with the four products as they are
carried : (ac bc ad bd : ℕ) → (bd * 18446744073709551616 + (bc + ad) * 4294967296 + ac) / 18446744073709551616
    ≡ bd + (bc + ac / 4294967296) / 4294967296 + (ad + (bc + ac / 4294967296) % 4294967296) / 4294967296
carried ac bc ad bd = omega arith

expanded : (a b c d : ℕ) → (a + 4294967296 * b) * (c + 4294967296 * d) ≡ b * d * 18446744073709551616 + (b * c + a * d) * 4294967296 + a * c
expanded a b c d = omega arith

split : (x : ℕ) → x ≡ x % 4294967296 + 4294967296 * (x / 4294967296)
split x = omega arith

pub high_part : (x y : ℕ) → let a = x % 4294967296 in let b = x / 4294967296 in let c = y % 4294967296 in let d = y / 4294967296 in
    b * d + (b * c + a * c / 4294967296) / 4294967296 + (a * d + (b * c + a * c / 4294967296) % 4294967296) / 4294967296 ≡ x * y / 18446744073709551616
high_part x y =
    let a = x % 4294967296 in
    let b = x / 4294967296 in
    let c = y % 4294967296 in
    let d = y / 4294967296 in
    sym (carried (a * c) (b * c) (a * d) (b * d))
    ∙ ap (λ (n : ℕ). n / 18446744073709551616) (sym (expanded a b c d))
    ∙ ap (λ (n : ℕ). n * (c + 4294967296 * d) / 18446744073709551616) (sym (split x))
    ∙ ap (λ (n : ℕ). x * n / 18446744073709551616) (sym (split y))

-- ---- the quotient

spread : (q r p s : ℕ) → (q * p + r) * s ≡ q * (s * p) + r * s
spread q r p s = omega arith

joined : (q k e t : ℕ) → q * (k + e) + t ≡ q * k + (q * e + t)
joined q k e t = omega arith

-- where s p is k and a little more, x s over k is x over p as long as what is left stays below k
by_scale : (p s k e x : ℕ) → 0 < k → s * p ≡ k + e → x / p * e + x % p * s < k → x * s / k ≡ x / p
by_scale p s k e x pos is small =
    ap (λ (n : ℕ). n * s / k) (sym (N.div-add-mod' x p))
    ∙ ap (λ (n : ℕ). n / k) (spread (x / p) (x % p) p s ∙ ap (λ (n : ℕ). x / p * n + x % p * s) is ∙ joined (x / p) k e (x % p * s))
    ∙ N.mul-add-div_right pos (x / p) (x / p * e + x % p * s)
    ∙ ap (λ (n : ℕ). x / p + n) (N.div-eq_of_lt small)
    ∙ N.add-zero (x / p)

first_left : (q r : ℕ) → q ≤ 13344153342131 → r < 86399 → q * 20859 + r * 3498089733719803397 < 302231454903657293676544
first_left q r hq hr = omega arith

second_left : (q r : ℕ) → q ≤ 3812583720868 → r < 302399 → q * 214687 + r * 999445946923294369 < 302231454903657293676544
second_left q r hq hr = omega arith

-- 2^78 in two steps
two_steps : (n k : ℕ) → 18446744073709551616 * 16384 ≡ k → n / 18446744073709551616 / 16384 ≡ n / k
two_steps n k e = N.div-div-eq-div-mul n 18446744073709551616 16384 ∙ ap (λ (k : ℕ). n / k) e

first_quotient : (x : ℕ) → x < 1152921504606846976 → x * 3498089733719803397 / 18446744073709551616 / 16384 ≡ x / 86399
first_quotient x h =
    two_steps (x * 3498089733719803397) 302231454903657293676544 refl
    ∙ by_scale 86399 3498089733719803397 302231454903657293676544 20859 x (omega arith) refl (first_left (x / 86399) (x % 86399) (omega arith) (omega arith))

second_quotient : (x : ℕ) → x < 1152921504606846976 → x * 999445946923294369 / 18446744073709551616 / 16384 ≡ x / 302399
second_quotient x h =
    two_steps (x * 999445946923294369) 302231454903657293676544 refl
    ∙ by_scale 302399 999445946923294369 302231454903657293676544 214687 x (omega arith) refl (second_left (x / 302399) (x % 302399) (omega arith) (omega arith))

pub quotient_is : (m x : ℕ) → IsModulus m → x < 1152921504606846976 → x * scale m / 18446744073709551616 / 16384 ≡ x / prime m
unfolding prime
quotient_is m x is h = by_modulus (λ m. x * scale m / 18446744073709551616 / 16384 ≡ x / prime m) (first_quotient x h) (second_quotient x h) m is

-- what the quotient leaves
pub rest_is : (p x : ℕ) → x - x / p * p ≡ x % p
rest_is p x = along (λ (n : ℕ). n - x / p * p) x (x / p * p + x % p) (sym (N.div-add-mod' x p)) ∙ omega arith
