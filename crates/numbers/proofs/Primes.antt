-- The prime that m chooses: its two digits, its bounds, and that 2,880 divides the number after it.
use mathlib.Core.Path.{◌≡◌, refl, ap}
use mathlib.Core.Bool.{Bool, true, false, cond}
use Prim.Native.Nat.{ℕ, ◌+◌, ◌*◌, ◌/◌, ◌<◌, ◌≤◌}
use native.Mathlib.Omega.{arith}
use lib.Dec.{eqb}
use borrow.Author.Tests.{eq-eqb, ne_eqb}
use Rattle.numbers.specs.declared.Pair.{Pair}
use Rattle.numbers.specs.Value.{prime, exponent, IsModulus}
use Rattle.numbers.specs.Bounds.{Small}

pub first_modulus : IsModulus 1
first_modulus = record { low = omega arith; high = omega arith }

-- what holds of both primes holds at every m
pub by_choice : (P : Bool → Type 0) → P true → P false → (b : Bool) → P b
by_choice P one two true = one
by_choice P one two false = two

pub prime_one : {m : ℕ} → m ≡ 1 → prime m ≡ 86399
unfolding prime
prime_one e = ap (λ b. cond b 86399 302399) (eq-eqb _ 1 e)

pub prime_two : {m : ℕ} → IsModulus m → (m ≡ 1 → ⊥) → prime m ≡ 302399
unfolding prime
prime_two is n = ap (λ b. cond b 86399 302399) (ne_eqb _ 1 n)

pub prime_least : (m : ℕ) → 86399 ≤ prime m
unfolding prime
prime_least m = by_choice (λ b. 86399 ≤ cond b 86399 302399) (omega arith) (omega arith) (eqb m 1)

pub prime_most : {m : ℕ} → IsModulus m → prime m ≤ 302399
unfolding prime
prime_most {m} is = by_choice (λ b. cond b 86399 302399 ≤ 302399) (omega arith) (omega arith) (eqb m 1)

-- a pair of residues of either modulus
pub small_most : {m : ℕ} {v : Pair} → IsModulus m → Small (prime m) v → Small 302399 v
small_most c h = record { re = omega (arith, prime_most c); im = omega (arith, prime_most c) }

pub prime_pos : (m : ℕ) → 0 < prime m
prime_pos m = omega (arith, prime_least m)

-- p + 1 = 2,880 c
pub prime_next : (m : ℕ) → prime m + 1 ≡ 2880 * exponent m
unfolding prime exponent
prime_next m = by_choice (λ b. cond b 86399 302399 + 1 ≡ 2880 * cond b 30 105) refl refl (eqb m 1)

-- p is odd
pub prime_half : (m : ℕ) → (prime m + 1) / 2 + (prime m + 1) / 2 ≡ prime m + 1
prime_half m = omega (arith, prime_next m)
