-- Modulo a prime every residue but 0 has an inverse: p = q t + s with 0 < s < t gives that of t from that of s.
use mathlib.Core.Path.{◌≡◌, refl, sym, ◌∙◌, ap}
use mathlib.Core.List.{[], ◌∷◌}
use Prim.Native.Nat.{ℕ, zero, suc, ◌+◌, ◌*◌, ◌/◌, ◌%◌, ◌<◌, ◌≤◌}
use native.Mathlib.Nat as N
use native.Mathlib.Omega.{arith}
use native.Mathlib.Decide.{ℕ_discrete}
use Rattle.algebra.specs.ring.Ring.{Res, residue, residues}
use Rattle.algebra.specs.ring.RingLaws.{CRing}
use Rattle.algebra.proofs.ring.Laws.{along}
use Rattle.algebra.proofs.ring.Solver.{ring, quote, linear}
use Rattle.algebra.proofs.ring.ResidueRing.{val_path, val_below, residue_val, residue_add, residue_mul, residue_ring}
use Rattle.prime_shape.specs.Prime.{Prime}

module _ {p : ℕ} (prime : Prime p) where
  open residues p use {add as ◌⊞◌, mul as ◌⊠◌, neg as ⊟◌, zer as 𝟎, one as 𝟏}

  infixl 65 ◌⊞◌
  infixl 70 ◌⊠◌
  infix 75 ⊟◌
  pub ring_of : CRing (residues p)
  ring_of = residue_ring p (N.le_of_lt prime.above)

  abbrev Inverse : Res p → Type 0
  Inverse x = (u : Res p) × (u ⊠ x ≡ 𝟏)

  step : (v q t s : Res p) → t ⊠ q ⊞ s ≡ 𝟎 → v ⊠ s ≡ 𝟏 → ⊟ (v ⊠ q) ⊠ t ≡ 𝟏
  step v q t s h e = linear ring_of h (⊟ v) (linear ring_of e 𝟏 (ring ring_of (v ∷ q ∷ t ∷ s ∷ []) (search quote depth 40 fits 9999) refl))

  whole : (t : ℕ) → residue p t ⊠ residue p (p / t) ⊞ residue p (p % t) ≡ 𝟎
  unfolding residues residue
  whole t = sym (residue_add p (t * (p / t)) (p % t) ∙ ap (λ y. y ⊞ residue p (p % t)) (residue_mul p t (p / t)))
      ∙ along (residue p) (t * (p / t) + p % t) p (N.div-add-mod p t) ∙ val_path (N.mod_self p ∙ sym (N.zero-mod p))

  -- from the inverses of all smaller numbers
  descend : (t : ℕ) → 0 < t → t < p → ((s : ℕ) → s < t → 0 < s → s < p → Inverse (residue p s)) → Dec (t ≡ 1) → Dec (p % t ≡ 0) → Inverse (residue p t)
  unfolding residues
  descend t o l smaller (yes e) d = (residue p 1, ring_of.one_mul (residue p t) ∙ ap (residue p) e)
  descend t o l smaller (no e) (yes z) = absurd (prime.only t (omega arith) l z)
  descend t o l smaller (no e) (no z) = next (smaller (p % t) (N.mod-lt p o) (omega arith) (omega (arith, N.mod-lt p o)))
    where
      next : Inverse (residue p (p % t)) → Inverse (residue p t)
      next (v, f) = (⊟ (v ⊠ residue p (p / t)), step v (residue p (p / t)) (residue p t) (residue p (p % t)) (whole t) f)

  go : (n t : ℕ) → t ≤ n → 0 < t → t < p → Inverse (residue p t)
  go zero t h o l = absurd (omega arith)
  go (suc n) t h o l = descend t o l (λ s lt. go n s (N.le_of_suc-le-suc (N.lt_of_lt_of_le lt h))) (ℕ_discrete t 1) (ℕ_discrete (p % t) 0)

  pub inverse_of_lem : (x : Res p) → (x.val ≡ 0 → ⊥) → Inverse x
  inverse_of_lem x n = move (go x.val x.val (N.le_refl x.val) (omega arith) (val_below p (N.le_of_lt prime.above) x))
    where
      move : Inverse (residue p x.val) → Inverse x
      move (u, e) = (u, ap (λ y. u ⊠ y) (sym (residue_val p x)) ∙ e)
