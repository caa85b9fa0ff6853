-- A number below s * s that no number from 2 to s divides is a prime: one of two factors is below s.
use mathlib.Core.Path.{◌≡◌, ◌∙◌, ap}
use mathlib.Core.Bool.{Bool, not}
use Prim.Native.Nat.{ℕ, zero, suc, ◌*◌, ◌-◌, ◌/◌, ◌%◌, ◌<◌, ◌≤◌}
use native.Mathlib.Nat as N
use native.Mathlib.Omega.{arith}
use native.Mathlib.Decide.{dec_lt}
use lib.Dec.{T, T_not, eqb}
use borrow.Author.Tests.{eq-eqb}
use Rattle.algebra.specs.cells.Cell.{below}
use Rattle.algebra.proofs.ring.Bool.{below_at}
use Rattle.prime_shape.specs.Prime.{Prime}

-- none of 2, .., s divides p
unfoldable pub undivided : (p s : ℕ) → Bool
undivided p s = below (s - 1) (λ k. not (eqb (p % suc (suc k)) 0))

module _ (p s : ℕ) (high : p < s * s) (above : 1 < p) (test : T (undivided p s)) where
  small : (d : ℕ) → 1 < d → d ≤ s → p % d ≡ 0 → ⊥
  unfolding undivided
  small zero l h e = omega arith
  small (suc zero) l h e = omega arith
  small (suc (suc k)) l h e = T_not (eqb (p % suc (suc k)) 0) (below_at (s - 1) (λ k. not (eqb (p % suc (suc k)) 0)) k test (omega arith)) (rw (eq-eqb (p % suc (suc k)) 0 e) tt)

  -- p = d q with d above s: then q is below s, above 1, and divides p
  large : (d q : ℕ) → s < d → d < p → p ≡ d * q → ⊥
  large d zero g l e = omega arith
  large d (suc zero) g l e = omega arith
  large d (suc (suc q)) g l e = go (dec_lt s (suc (suc q)))
    where
      go : Dec (s < suc (suc q)) → ⊥
      go (yes h) = omega (arith, e, high, N.mul-le-mul (N.le_of_lt g) (N.le_of_lt h))
      go (no h) = small (suc (suc q)) (omega arith) (omega arith) (ap (λ y. y % suc (suc q)) e ∙ N.mul-mod_left d (suc (suc q)))

  pub prime_by : Prime p
  prime_by = record { above = above; only = only }
    where
      only : (d : ℕ) → 1 < d → d < p → p % d ≡ 0 → ⊥
      only d h l e = go (dec_lt s d)
        where
          whole : p ≡ d * (p / d)
          whole = omega (arith, N.div-add-mod p d)

          go : Dec (s < d) → ⊥
          go (yes g) = large d (p / d) g l whole
          go (no g) = small d h (omega arith) e

tested_86399 : T (undivided 86399 294)
unfolding undivided below
tested_86399 = tt

tested_302399 : T (undivided 302399 550)
unfolding undivided below
tested_302399 = tt

pub prime_86399 : Prime 86399
prime_86399 = prime_by 86399 294 (omega arith) (omega arith) tested_86399

pub prime_302399 : Prime 302399
prime_302399 = prime_by 302399 550 (omega arith) (omega arith) tested_302399
