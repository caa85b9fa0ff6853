-- The order of a root is exactly 2,880 if its quarter turn is -i and its powers 1,440, 960 and 576 are not 1: what has to be computed of one prime.
use mathlib.Core.Path.{◌≡◌, refl, sym, ◌∙◌, ap}
use mathlib.Core.List.{[], ◌∷◌}
use Prim.Native.Nat.{ℕ, ◌*◌, ◌%◌, ◌<◌}
use native.Mathlib.Nat as N
use native.Mathlib.Omega.{arith}
use native.Mathlib.Decide.{ℕ_discrete}
use lib.Dec.{lit<}
use Rattle.algebra.specs.ring.Ring.{pow}
use Rattle.algebra.specs.ring.RingLaws.{CRing, Star}
use Rattle.algebra.proofs.ring.Solver.{ring, quote, linear}
use Rattle.algebra.proofs.ring.ResidueRing.{residue_ring}
use Rattle.algebra.proofs.ring.GaussRing.{gauss_ring, gauss_star}
use Rattle.algebra.proofs.fourier.Transform.{pow_mul, pow_mod, pow_cycle}
use Rattle.algebra.proofs.fourier.Divisors.{Hit, hit2, hit3, hit5, hit}
use Rattle.prime_shape.specs.Shape.{Value, field, conj, i, Suits}

module _ (p : ℕ) (above : 1 < p) (z : Value p) where
  open field p use {mul as ◌⊗◌, neg as ⊖◌, one as 𝟙}

  infixl 70 ◌⊗◌
  infix 75 ⊖◌
  infixl 80 ◌^◌
  abbrev ◌^◌ : Value p → ℕ → Value p
  z ^ k = pow (field p) z k

  𝓡 : CRing (field p)
  𝓡 = gauss_ring (residue_ring p (N.le_of_lt above))

  𝓢 : Star (field p) (conj p) (i p)
  𝓢 = gauss_star (residue_ring p (N.le_of_lt above))

  fourth : (x : Value p) → x ^ 4 ≡ x ⊗ x ⊗ (x ⊗ x)
  unfolding pow
  fourth x = ring 𝓡 (x ∷ []) (search quote depth 40 fits 9999) refl

  full : z ^ 720 ≡ ⊖ i p → z ^ 2880 ≡ 𝟙
  full h = pow_mul 𝓡 z 720 4 ∙ fourth _ ∙ ap (λ y. y ⊗ y ⊗ (y ⊗ y)) h ∙ step (i p) 𝓢.i_square
    where
      step : (x : Value p) → x ⊗ x ≡ ⊖ 𝟙 → (⊖ x) ⊗ (⊖ x) ⊗ ((⊖ x) ⊗ (⊖ x)) ≡ 𝟙
      step x h = linear 𝓡 h (x ⊗ x ⊗ 𝟙 ⊗ 𝟙) (linear 𝓡 h (⊖ 𝟙) (ring 𝓡 (x ∷ []) (search quote depth 40 fits 9999) refl))

  module _ (quarter : z ^ 720 ≡ ⊖ i p) (half : z ^ 1440 ≡ 𝟙 → ⊥) (third : z ^ 960 ≡ 𝟙 → ⊥) (fifth : z ^ 576 ≡ 𝟙 → ⊥) where
    module _ (k : ℕ) (one : z ^ k ≡ 𝟙) where
      low : z ^ (k % 2880) ≡ 𝟙
      low = pow_mod 𝓡 z 2880 k (full quarter) ∙ one

      reached : (j n : ℕ) → k % 2880 * j % 2880 ≡ n → z ^ n ≡ 𝟙
      reached j n h = ap (λ y. z ^ y) (sym h) ∙ pow_mod 𝓡 z 2880 (k % 2880 * j) (full quarter) ∙ pow_cycle 𝓡 z (k % 2880) j low

      never : Hit (k % 2880) → ⊥
      never (hit2 j h) = half (reached j 1440 h)
      never (hit3 j h) = third (reached j 960 h)
      never (hit5 j h) = fifth (reached j 576 h)

      divides : Dec (k % 2880 ≡ 0) → k % 2880 ≡ 0
      divides (yes e) = e
      divides (no n) = absurd (never (hit (k % 2880) (omega arith) (N.mod-lt k (lit< tt))))

    pub suits_by : Suits p z
    suits_by = record { order = record { cycle = full quarter; only = λ k e. divides k e (ℕ_discrete (k % 2880) 0) }; quarter = quarter }
