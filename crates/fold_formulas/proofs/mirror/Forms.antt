-- Symmetric and antisymmetric lines: what the code computes of two places of the short transform is the form of the theory.
use mathlib.Core.Path.{◌≡◌, refl, sym, ◌∙◌, ap, ap₂}
use mathlib.Core.List.{[], ◌∷◌}
use Prim.Native.Nat.{ℕ, ◌≤◌}
use native.Mathlib.Omega.{arith}
use Rattle.algebra.specs.ring.Ring.{Ops, residues}
use Rattle.algebra.specs.ring.RingLaws.{CRing}
use Rattle.algebra.specs.lines.Folds.{mirror_value}
use Rattle.algebra.proofs.ring.Solver.{ring, quote}
use Rattle.numbers.specs.declared.Pair.{Pair}
use Rattle.numbers.specs.Value.{Value, field, i, real, half, value_of, pair_of}
use Rattle.numbers.specs.Bounds.{res}
use Rattle.numbers.proofs.Residues.{res_ring}
use Rattle.numbers.proofs.Values.{value_by, value_path, field_ring, i_times}
use Rattle.fold_formulas.specs.FoldFormulas.{sigma}

module _ {R : Type 0} {𝓞 : Ops R} (𝓡 : CRing 𝓞) where
  open 𝓞 use {add as ◌⊕◌, mul as ◌⊗◌, neg as ⊖◌, zer as 𝟘, one as 𝟙}

  infixl 65 ◌⊕◌
  infixl 70 ◌⊗◌
  infix 75 ⊖◌
  mirror_value_even : (h t i y z : R) → h ⊗ ((y ⊕ z) ⊕ i ⊗ (t ⊗ (y ⊕ ⊖ z))) ≡ mirror_value 𝓞 h 𝟙 (i ⊗ t) y z
  unfolding mirror_value
  mirror_value_even h t i y z = ring 𝓡 (h ∷ t ∷ i ∷ y ∷ z ∷ []) (search quote depth 40 fits 9999) refl

  mirror_value_odd : (h t i y z : R) → h ⊗ ((y ⊕ ⊖ z) ⊕ i ⊗ (t ⊗ (y ⊕ z))) ≡ mirror_value 𝓞 h (⊖ 𝟙) (i ⊗ t) y z
  unfolding mirror_value
  mirror_value_odd h t i y z = ring 𝓡 (h ∷ t ∷ i ∷ y ∷ z ∷ []) (search quote depth 40 fits 9999) refl

-- a number beside i
pub i_tau_value : (m tau : ℕ) → value_of m (record { re = 0; im = tau }) ≡ (field m).mul (i m) (real m (res m tau))
unfolding value_of residues
i_tau_value m tau = sym (i_times m (real m (res m tau)) ∙ value_path (ring (res_ring m) [] (search quote depth 40 fits 9999) refl) refl)

-- (x + w + i tau d)/2 of values
abbrev pub half_sum : (m tau : ℕ) (x w d : Value m) → Value m
half_sum m tau x w d = (field m).mul (real m (half m)) ((field m).add ((field m).add x w) ((field m).mul (i m) ((field m).mul (real m (res m tau)) d)))

pub half_sum_by : (m tau : ℕ) (x w d : Value m) {g r : Pair} → g ≡ pair_of ((field m).add ((field m).add x w) ((field m).mul (value_of m (record { re = 0; im = tau })) d))
    → r ≡ pair_of ((field m).mul (real m (half m)) (value_of m g)) → r ≡ pair_of (half_sum m tau x w d)
half_sum_by m tau x w d hg hr =
    hr ∙ ap (λ z. pair_of ((field m).mul (real m (half m)) z))
    (value_by m _ hg ∙ ap (λ t. (field m).add ((field m).add x w) ((field m).mul t d)) (i_tau_value m tau) ∙ ap ((field m).add ((field m).add x w)) ((field_ring m).mul_assoc _ _ _))

-- the place of the transform, from two places of the short one
abbrev pub finish_between : (m tau first : ℕ) (y z : Value m) → Value m
finish_between m tau first y z = mirror_value (field m) (real m (half m)) (sigma (field m) first) ((field m).mul (i m) (real m (res m tau))) y z

module _ (m tau first : ℕ) (y z : Value m) {r d : Pair} where
  pub between_symmetric : d ≡ pair_of ((field m).add y ((field m).neg z)) → first ≡ 0 → r ≡ pair_of (half_sum m tau y z (value_of m d)) → r ≡ pair_of (finish_between m tau first y z)
  between_symmetric apart e h = h ∙ ap (λ x. pair_of (half_sum m tau y z x)) (value_by m _ apart) ∙ ap pair_of (mirror_value_even (field_ring m) _ _ _ y z) ∙ ap (λ f. pair_of (finish_between m tau f y z)) (sym e)

  pub between_antisymmetric : {n : Pair} → d ≡ pair_of ((field m).add y z) → n ≡ pair_of ((field m).neg z) → first ≤ 1 → (first ≡ 0 → ⊥) → r ≡ pair_of (half_sum m tau y (value_of m n) (value_of m d)) → r ≡ pair_of (finish_between m tau first y z)
  between_antisymmetric both negated l n h = h ∙ ap₂ (λ w x. pair_of (half_sum m tau y w x)) (value_by m _ negated) (value_by m _ both) ∙ ap pair_of (mirror_value_odd (field_ring m) _ _ _ y z) ∙ ap (λ f. pair_of (finish_between m tau f y z)) one
    where
      one : 1 ≡ first
      one = omega arith
