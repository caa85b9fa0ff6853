-- The octal digits of a number, walked from the lowest: what the test of each digit and the product so far say of the whole list.
use mathlib.Core.Path.{◌≡◌, ◌∙◌, sym, ap}
use mathlib.Core.Bool.{Bool, true, false, ◌&&◌}
use mathlib.Core.List.{List}
use Prim.Native.Nat.{ℕ, ◌*◌, ◌/◌, ◌%◌, ◌≤◌}
use native.Mathlib.Nat.{mul-le-mul}
use native.Mathlib.Omega.{arith}
use Rattle.lengths.specs.Lengths.{product, factors_ok, digits, octal_digits}
use Rattle.lengths.specs.Admitted.{is_factor}
use Rattle.lengths.proofs.Digits.{digit_cons}

-- ---- whether every digit is a factor: what is settled so far, and the rest n of the digits of f

ok_cons : (n : ℕ) → (n ≡ 0 → ⊥) → factors_ok (octal_digits n) ≡ (is_factor (n % 8) && factors_ok (octal_digits (n / 8)))
unfolding factors_ok
ok_cons n z = ap factors_ok (digit_cons n z)

pub ok_next : (ok : Bool) (f n : ℕ) → (n ≡ 0 → ⊥) → (ok && factors_ok (octal_digits n)) ≡ factors_ok (octal_digits f) → ((ok && is_factor (n % 8)) && factors_ok (octal_digits (n / 8))) ≡ factors_ok (octal_digits f)
ok_next true f n z h = sym (ok_cons n z) ∙ h
ok_next false f n z h = h

pub ok_ends : (ok : Bool) (f n : ℕ) → n ≡ 0 → (ok && factors_ok (octal_digits n)) ≡ factors_ok (octal_digits f) → ok ≡ factors_ok (octal_digits f)
unfolding factors_ok digits
ok_ends true f n z h = ap (λ (k : ℕ). factors_ok (octal_digits k)) (sym z) ∙ h
ok_ends false f n z h = h

-- ---- the product d so far, times that of the rest n

pub product_cons : (f n d : ℕ) → (n ≡ 0 → ⊥) → product (octal_digits f) ≡ d * product (octal_digits n) → product (octal_digits f) ≡ d * (n % 8) * product (octal_digits (n / 8))
unfolding product
product_cons f n d z p = p ∙ ap (λ (l : List ℕ). d * product l) (digit_cons n z) ∙ omega arith

pub product_ends : (f n d : ℕ) → n ≡ 0 → product (octal_digits f) ≡ d * product (octal_digits n) → product (octal_digits f) ≡ d
unfolding product digits
product_ends f n d z p = p ∙ ap (λ (k : ℕ). d * product (octal_digits k)) z ∙ omega arith

-- the product so far, times the number that the rest of the digits make, is at most the number of all of them
pub product_room : (f n d : ℕ) → (n ≡ 0 → ⊥) → d * n ≤ f → d * (n % 8) ≤ f
product_room f n d z h =
    let low : n % 8 ≤ n = omega arith in
    let same : d ≤ d = omega arith in
    omega (arith, mul-le-mul same low)

pub product_small : (f n d : ℕ) → d * n ≤ f → d * (n % 8) * (n / 8) ≤ f
product_small f n d h =
    let digit : n % 8 ≤ 7 = omega arith in
    let rest : n / 8 ≤ n / 8 = omega arith in
    let both : n % 8 * (n / 8) ≤ n = omega (arith, mul-le-mul digit rest) in
    let same : d ≤ d = omega arith in
    omega (arith, mul-le-mul same both)
