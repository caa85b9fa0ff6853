-- The modulus number is 1 or 2: what is computed for both holds for each.
use mathlib.Core.Path.{◌≡◌, refl, sym, subst, ◌∙◌}
use mathlib.Core.Logic.{◌↔◌, ◌⊎◌, inl, inr}
use mathlib.Core.Bool.{true, false, ◌||◌}
use Prim.Native.Nat.{ℕ}
use native.Mathlib.Omega.{arith}
use native.Mathlib.Decide.{ℕ_discrete}
use lib.Dec.{T}
use borrow.Author.Tests.{ne_eqb}
use Rattle.numbers.specs.Value.{is_modulus, IsModulus}

pub second : {m : ℕ} → IsModulus m → (m ≡ 1 → ⊥) → m ≡ 2
second is h = omega arith

pub by_modulus : (P : ℕ → Type 0) → P 1 → P 2 → (m : ℕ) → IsModulus m → P m
by_modulus P one two m is = go (ℕ_discrete m 1)
  where
    go : Dec (m ≡ 1) → P m
    go (yes e) = subst P (sym e) one
    go (no n) = subst P (sym (second is n)) two

true_not_false : true ≡ false → ⊥
true_not_false e = subst T e tt

-- the test and what contracts ask for say the same
pub tested_modulus : (m : ℕ) → is_modulus m ≡ true → IsModulus m
tested_modulus m t = go (ℕ_discrete m 1) (ℕ_discrete m 2)
  where
    go : Dec (m ≡ 1) → Dec (m ≡ 2) → IsModulus m
    go (yes e) d = record { low = omega arith; high = omega arith }
    go (no n) (yes e) = record { low = omega arith; high = omega arith }
    go (no n) (no n') = absurd (true_not_false (sym t ∙ (λ i. ne_eqb m 1 n i || ne_eqb m 2 n' i)))

pub modulus_tested : (m : ℕ) → IsModulus m → is_modulus m ≡ true
modulus_tested m is = by_modulus (λ m. is_modulus m ≡ true) refl refl m is

-- the test says that the modulus number is 1 or 2
pub one_or_two : (m : ℕ) → (is_modulus m ≡ true) ↔ ((m ≡ 1) ⊎ (m ≡ 2))
one_or_two m = (λ t. by_modulus (λ m. (m ≡ 1) ⊎ (m ≡ 2)) (inl refl) (inr refl) m (tested_modulus m t), λ o. modulus_tested m (named o))
  where
    named : (m ≡ 1) ⊎ (m ≡ 2) → IsModulus m
    named (inl e) = record { low = omega arith; high = omega arith }
    named (inr e) = record { low = omega arith; high = omega arith }
