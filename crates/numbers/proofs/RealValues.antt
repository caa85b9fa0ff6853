-- Real values: what the code does with their numbers is what the values' ring does, and a value is made of its two parts.
-- The number that the code holds for a sum, a difference, a product or a half is a residue.
use mathlib.Core.Path.{◌≡◌, refl, sym}
use mathlib.Core.List.{[], ◌∷◌}
use Prim.Native.Nat.{ℕ, ◌<◌}
use Rattle.algebra.specs.ring.Ring.{Ops, residues, gauss, imag}
use Rattle.algebra.specs.ring.RingLaws.{CRing}
use Rattle.algebra.proofs.ring.Solver.{ring, quote}
use Rattle.algebra.proofs.ring.Laws.{neg_zero}
use Rattle.numbers.specs.Value.{prime, Residue, field, i, real, half}
use Rattle.numbers.specs.Bounds.{res}
use Rattle.numbers.specs.Value as Value
use Rattle.numbers.proofs.Residues.{res_ring, below_by}
use Rattle.numbers.proofs.Values.{value_path}

real_add_in : {R : Type 0} {𝓞 : Ops R} (𝓡 : CRing 𝓞) (x y : R) → ◌≡◌ {A = R × R} (𝓞.add x y, 𝓞.zer) ((gauss 𝓞).add (x, 𝓞.zer) (y, 𝓞.zer))
unfolding gauss
real_add_in 𝓡 x y = value_path refl (sym (𝓡.zero_add _))

real_neg_in : {R : Type 0} {𝓞 : Ops R} (𝓡 : CRing 𝓞) (x : R) → ◌≡◌ {A = R × R} (𝓞.neg x, 𝓞.zer) ((gauss 𝓞).neg (x, 𝓞.zer))
unfolding gauss
real_neg_in 𝓡 x = value_path refl (sym (neg_zero 𝓡))

real_mul_in : {R : Type 0} {𝓞 : Ops R} (𝓡 : CRing 𝓞) (x y : R) → ◌≡◌ {A = R × R} (𝓞.mul x y, 𝓞.zer) ((gauss 𝓞).mul (x, 𝓞.zer) (y, 𝓞.zer))
unfolding gauss
real_mul_in {𝓞 = 𝓞} 𝓡 x y = value_path
    (ring 𝓡 (x ∷ y ∷ []) (search quote depth 40 fits 9999) refl)
    (ring 𝓡 (x ∷ y ∷ []) (search quote depth 40 fits 9999) refl)

parts_in : {R : Type 0} {𝓞 : Ops R} (𝓡 : CRing 𝓞) (x y : R) → (gauss 𝓞).add (x, 𝓞.zer) ((gauss 𝓞).mul (imag 𝓞) (y, 𝓞.zer)) ≡ (x, y)
unfolding gauss imag
parts_in 𝓡 x y = value_path
    (ring 𝓡 (x ∷ y ∷ []) (search quote depth 40 fits 9999) refl)
    (ring 𝓡 (x ∷ y ∷ []) (search quote depth 40 fits 9999) refl)

module _ (m : ℕ) where
  pub real_add : (x y : Residue m) → real m ((Value.ring m).add x y) ≡ (field m).add (real m x) (real m y)
  unfolding residues
  real_add x y = real_add_in (res_ring m) x y

  pub real_neg : (x : Residue m) → real m ((Value.ring m).neg x) ≡ (field m).neg (real m x)
  unfolding residues
  real_neg x = real_neg_in (res_ring m) x

  pub real_mul : (x y : Residue m) → real m ((Value.ring m).mul x y) ≡ (field m).mul (real m x) (real m y)
  unfolding residues
  real_mul x y = real_mul_in (res_ring m) x y

  -- a value from its two parts
  pub parts_value : (x y : Residue m) → (field m).add (real m x) ((field m).mul (i m) (real m y)) ≡ (x, y)
  unfolding residues
  parts_value x y = parts_in (res_ring m) x y

  pub sum_small : (a b : ℕ) {r : ℕ} → r ≡ ((Value.ring m).add (res m a) (res m b)).val → r < prime m
  sum_small a b e = below_by m ((Value.ring m).add (res m a) (res m b)) e

  pub difference_small : (a b : ℕ) {r : ℕ} → r ≡ ((Value.ring m).add (res m a) ((Value.ring m).neg (res m b))).val → r < prime m
  difference_small a b e = below_by m ((Value.ring m).add (res m a) ((Value.ring m).neg (res m b))) e

  pub product_small : (a b : ℕ) {r : ℕ} → r ≡ ((Value.ring m).mul (res m a) (res m b)).val → r < prime m
  product_small a b e = below_by m ((Value.ring m).mul (res m a) (res m b)) e

  pub half_small : (a : ℕ) {r : ℕ} → r ≡ ((Value.ring m).mul (half m) (res m a)).val → r < prime m
  half_small a e = below_by m ((Value.ring m).mul (half m) (res m a)) e
