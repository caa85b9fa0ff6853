-- Numbers that are held times 2^32: sums, differences and products of them, as the code computes them.
use mathlib.Core.Path.{◌≡◌, refl, ◌∙◌, ap, ap₂}
use mathlib.Core.List.{[], ◌∷◌}
use Prim.Native.Nat.{ℕ, ◌≤◌}
use native.Mathlib.Omega.{arith}
use Rattle.algebra.proofs.ring.Solver.{ring, quote}
use Rattle.numbers.specs.Value.{prime, Residue, half}
use Rattle.numbers.specs.Value as Value
use Rattle.numbers.specs.Bounds.{res}
use Rattle.numbers.proofs.Residues.{res_ring, res_by, below_by}
use Rattle.batches.specs.Reduction.{Holds}
use Rattle.batches.proofs.Meaning.{shift}

module _ (m : ℕ) where
  open Value.ring m use {add as ◌⊞◌, mul as ◌⊠◌, neg as ⊟◌}

  infixl 65 ◌⊞◌
  infixl 70 ◌⊠◌
  infix 75 ⊟◌
  pub held_sum : (a b : ℕ) {r : ℕ} {x y : Residue m} → r ≡ (res m a ⊞ res m b).val → Holds m a x → Holds m b y → Holds m r (x ⊞ y)
  held_sum a b {x = x} {y = y} e ha hb = record { is = res_by m (res m a ⊞ res m b) e ∙ ap₂ ◌⊞◌ ha.is hb.is ∙ ring (res_ring m) (shift m ∷ x ∷ y ∷ []) (search quote depth 40 fits 9999) refl }

  pub held_difference : (a b : ℕ) {r : ℕ} {x y : Residue m} → r ≡ (res m a ⊞ ⊟ res m b).val → Holds m a x → Holds m b y → Holds m r (x ⊞ ⊟ y)
  held_difference a b {x = x} {y = y} e ha hb = record { is = res_by m (res m a ⊞ ⊟ res m b) e ∙ ap₂ (λ u v. u ⊞ ⊟ v) ha.is hb.is ∙ ring (res_ring m) (shift m ∷ x ∷ y ∷ []) (search quote depth 40 fits 9999) refl }

  pub held_negative : (a : ℕ) {r : ℕ} {x : Residue m} → r ≡ (⊟ res m a).val → Holds m a x → Holds m r (⊟ x)
  held_negative a {x = x} e ha = record { is = res_by m (⊟ res m a) e ∙ ap ⊟◌ ha.is ∙ ring (res_ring m) (shift m ∷ x ∷ []) (search quote depth 40 fits 9999) refl }

  -- a number that is held, times one that is not
  pub held_product : (a b : ℕ) {r : ℕ} {x : Residue m} → r ≡ (res m a ⊠ res m b).val → Holds m a x → Holds m r (x ⊠ res m b)
  held_product a b {x = x} e ha = record { is = res_by m (res m a ⊠ res m b) e ∙ ap (λ u. u ⊠ res m b) ha.is ∙ ring (res_ring m) (shift m ∷ x ∷ res m b ∷ []) (search quote depth 40 fits 9999) refl }

  -- none is larger than the prime
  pub residue_most : (x : Residue m) {r : ℕ} → r ≡ x.val → r ≤ prime m
  residue_most x e = omega (arith, below_by m x e)
