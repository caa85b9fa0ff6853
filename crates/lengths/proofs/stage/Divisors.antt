-- The divisors of 2,880 and their quotients.
use mathlib.Core.Path.{◌≡◌, sym, ◌∙◌, ap, subst}
use Prim.Native.Nat.{ℕ, ◌*◌, ◌/◌, ◌≤◌, ◌<◌}
use native.Mathlib.Nat as N

-- a divisor of 2,880 is not 0, and the quotient is known
pub divisor_pos : (x y : ℕ) → x * y ≡ 2880 → 0 < x
divisor_pos x y h = N.pos_of_ne-zero (λ z. N.suc-ne-zero 2879 (sym h ∙ ap (λ (k : ℕ). k * y) z ∙ N.zero-mul y))

pub quotient : (x y : ℕ) → x * y ≡ 2880 → 2880 / x ≡ y
quotient x y h = N.div-eq_of_eq-mul_right {n = x} {m = 2880} {k = y} (divisor_pos x y h) (sym h)

pub divides : (x y : ℕ) → x * y ≡ 2880 → x * (2880 / x) ≡ 2880
divides x y h = ap (λ (k : ℕ). x * k) (quotient x y h) ∙ h

pub quotient_pos : (x y : ℕ) → x * y ≡ 2880 → 0 < 2880 / x
quotient_pos x y h = subst (λ k. 0 < k) (sym (quotient x y h)) (divisor_pos y x (N.mul_comm y x ∙ h))

pub divisor_le : (x y : ℕ) → x * y ≡ 2880 → x ≤ 2880
divisor_le x y h = subst (λ (k : ℕ). x ≤ k) h (subst (λ (k : ℕ). k ≤ x * y) (N.mul-one x) (N.mul-le-mul_left x (divisor_pos y x (N.mul_comm y x ∙ h))))
