-- Symmetric and antisymmetric lines: what the code computes at each place of the transform is the form of the theory.
use mathlib.Core.Path.{◌≡◌, refl, sym, ◌∙◌, ap, ap₂}
use mathlib.Core.List.{List}
use Prim.Native.Nat.{ℕ, zero, suc, ◌*◌, ◌-◌, ◌<◌}
use native.Mathlib.Omega.{arith}
use lib.ListN.{get_or}
use Rattle.algebra.specs.ring.Ring.{Ops}
use Rattle.algebra.specs.lines.Folds.{mirror_value, finish}
use Rattle.algebra.proofs.lines.Unfold.{three_lt, three_eq}
use Rattle.numbers.specs.declared.Pair.{Pair}
use Rattle.numbers.specs.Value.{prime, Value, field, value_of, pair_of}
use Rattle.numbers.proofs.Values.{value_by}
use Rattle.slices.specs.Pairs.{at, Below, values_of}
use Rattle.slices.proofs.Values.{read_value}
use Rattle.fold_formulas.specs.FoldFormulas.{stride}
use Rattle.fold_formulas.proofs.mirror.Forms.{finish_between}
use Rattle.folds.specs.FoldedLines.{finished}

module _ {R : Type 0} (𝓞 : Ops R) (half : R) (A : ℕ) (th : ℕ → R) (σ : R) (y : ℕ → R) (o : R) where
  open 𝓞 use {add as ◌⊕◌, neg as ⊖◌}

  pub finish_zero : finish 𝓞 half A th σ y o 0 ≡ y 0
  unfolding finish
  finish_zero = refl

  pub finish_middle : (s : ℕ) → 0 < s → s ≡ A → finish 𝓞 half A th σ y o s ≡ 𝓞.add (y 0) (𝓞.neg (𝓞.add o o))
  unfolding finish
  finish_middle zero q e = absurd (omega arith)
  finish_middle (suc s) q e = three_eq (suc s) A _ _ _ e

  pub finish_between_lem : (s : ℕ) → 0 < s → s < A → finish 𝓞 half A th σ y o s ≡ mirror_value 𝓞 half σ (th s) (y s) (y (A - s))
  unfolding finish
  finish_between_lem zero q l = absurd (omega arith)
  finish_between_lem (suc s) q l = three_lt (suc s) A _ _ _ l

module _ (m A first : ℕ) (tan fold : List ℕ) (o : Value m) (s : ℕ) where
  pub finished_zero : {r : Pair} → Below (prime m) fold → s ≡ 0 → r ≡ at fold 0 → r ≡ pair_of (finished m A first tan fold o s)
  finished_zero b e h = read_value m fold 0 h b ∙ ap pair_of (sym (finish_zero (field m) _ A _ _ _ o)) ∙ ap (λ t. pair_of (finished m A first tan fold o t)) (sym e)

  pub finished_middle : {r v d : Pair} → 0 < A → s ≡ A → d ≡ pair_of ((field m).add o o) → v ≡ at fold 0
      → r ≡ pair_of ((field m).add (value_of m v) ((field m).neg (value_of m d))) → r ≡ pair_of (finished m A first tan fold o s)
  finished_middle q e hd hv hr =
      hr
      ∙ ap pair_of
      (ap₂ (λ x y. (field m).add x ((field m).neg y)) (ap (value_of m) hv) (value_by m _ hd)
      ∙ sym (finish_middle (field m) _ A _ _ (values_of m fold) o s (omega arith) e))

  pub finished_between : {r v w : Pair} (tau : ℕ) → 0 < s → s < A → tau ≡ get_or tan (stride A * s) 0 → v ≡ at fold s → w ≡ at fold (A - s)
      → r ≡ pair_of (finish_between m tau first (value_of m v) (value_of m w)) → r ≡ pair_of (finished m A first tan fold o s)
  finished_between {v = v} {w = w} tau q l ht hv hw hr =
      hr
      ∙ ap pair_of
      (ap (λ t. finish_between m t first (value_of m v) (value_of m w)) ht
      ∙ ap₂ (finish_between m (get_or tan (stride A * s) 0) first) (ap (value_of m) hv) (ap (value_of m) hw)
      ∙ sym (finish_between_lem (field m) _ A _ _ (values_of m fold) o s q l))
