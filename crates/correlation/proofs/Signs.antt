-- The residue of a number with a sign by its magnitude.
use mathlib.Core.Path.{◌≡◌, refl, ◌∙◌, subst}
use mathlib.Core.Bool.{true, false}
use Prim.Native.Nat.{ℕ, suc, ◌-◌, ◌%◌}
use native.Mathlib.Nat.{not-suc-le-zero}
use native.Mathlib.Omega.{arith}
use lib.Dec.{T}
use lib.IntN.{ℤ, pos, negsuc, nat_abs}
use lib.Signed.{lt_z}
use borrow.Author.Tests.{ltb-true}
use Rattle.algebra.specs.ring.Ring.{residue}
use Rattle.algebra.proofs.ring.Laws.{along}
use Rattle.signed.specs.Integers.{residue_z}
use Rattle.numbers.specs.Value.{prime}
use Rattle.numbers.specs.Bounds.{res}

pub rest_is : (m x : ℕ) → (res m x).val ≡ x % prime m
unfolding residue
rest_is m x = refl

-- -(n + 1) is p - 1 - n % p
pub residue_negative : (p r : ℕ) (x : ℤ) → lt_z x (pos 0) ≡ true → r ≡ (nat_abs x - 1) % p → p - 1 - r ≡ residue_z p x
unfolding residue_z
residue_negative p r (pos n) e q = absurd (not-suc-le-zero (ltb-true n 0 e))
residue_negative p r (negsuc n) e q =
    let back : r ≡ n % p = q ∙ along (λ k. k % p) (suc n - 1) n (omega arith) in
    along (λ k. p - 1 - k) r (n % p) back ∙ omega arith

pub residue_plain : (p r : ℕ) (x : ℤ) → lt_z x (pos 0) ≡ false → r ≡ nat_abs x % p → r ≡ residue_z p x
unfolding residue_z
residue_plain p r (pos n) e q = q
residue_plain p r (negsuc n) e q = absurd (subst T e tt)
