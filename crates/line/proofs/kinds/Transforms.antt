-- What the folds compute with the lent tables is the transform of the definitions, for every kind and both directions: value by value, and as the numbers of a line.
use mathlib.Core.Path.{◌≡◌, refl, sym, ◌∙◌, ap}
use mathlib.Core.List.{List}
use Prim.Native.Nat.{ℕ, zero, suc, ◌*◌, ◌/◌, ◌<◌}
use native.Mathlib.Omega.{arith}
use Rattle.algebra.specs.ring.Ring.{pow, dft}
use Rattle.algebra.specs.lines.Kinds.{Kind, Kind.plain, slots, unfold_before, unfold_after, pack_before, pack_after}
use Rattle.algebra.specs.lines.FoldKinds.{fold_forward, fold_back}
use Rattle.algebra.proofs.ring.Laws.{along}
use Rattle.algebra.proofs.lines.FoldAll.{forward_is, back_is}
use Rattle.algebra.proofs.ring.Conj.{conj_pow}
use Rattle.numbers.specs.Value.{IsModulus, Value, field, real, part, on_values}
use Rattle.roots.specs.Root.{root}
use Rattle.roots.specs.Table.{table_root}
use Rattle.numbers.proofs.Values.{field_ring, field_star}
use Rattle.slices.specs.Pairs.{values_of, list_of}
use Rattle.slices.proofs.Values.{list_cong}
use Rattle.fold_formulas.specs.FoldFormulas.{line_root, tangent, folded}
use Rattle.lengths.specs.Lengths.{kind_of}
use Rattle.line.specs.Line.{transform, transformed_line, transformed}
use Rattle.line.specs.Tables.{root_for, TablesOf}
use Rattle.line.proofs.kinds.Axes.{axis_forward, axis_backward, line_root_lem, conj_line_root}

-- N/2 of N = 2 A
pub half_length : (A : ℕ) → 2 * A / 2 ≡ A
half_length A = omega arith

-- a list of values that are those of the transform
transformed_by : (m A kind direction : ℕ) {k : Kind} → kind_of kind ≡ k → (line : List ℕ) (f : ℕ → Value m) → ((j : ℕ) → j < slots k A → f j ≡ transform m k direction A (values_of m line) j) →
    list_of (slots k A) f ≡ transformed m kind direction (2 * A) line
unfolding transformed
transformed_by m A kind direction {k} e line f h =
    list_cong m (slots k A) f (transform m k direction A (values_of m line)) h
    ∙ along (λ a. transformed_line m k direction a line) A (2 * A / 2) (omega arith)
    ∙ ap (λ k. transformed_line m k direction (2 * A / 2) line) (sym e)

module _ (m : ℕ) (is : IsModulus m) (A : ℕ) (pos : 0 < A) (divides : A * (1440 / A) ≡ 1440) where
  open field m use {mul as ◌⊗◌, neg as ⊖◌}

  infixl 70 ◌⊗◌
  infix 75 ⊖◌
  module _ {re im tan : List ℕ} where
    pub folded_is_transform : (direction : ℕ) → TablesOf m direction re im tan → (k : Kind) (X : ℕ → Value m) (s : ℕ) → s < slots k A → folded m direction A re im tan k X s ≡ transform m k direction A X s
    folded_is_transform zero h k X s l =
        ap (λ v. on_values m fold_forward A v (real m (part m (2 * A))) (tangent m A tan) k X s) (line_root_lem m is A pos divides re im h.of_root)
        ∙ forward_is (field_ring m) (field_star m) (axis_forward m is A pos divides h.tangents) k X s l
    folded_is_transform (suc d) h k X s l =
        ap (λ v. on_values m fold_back A v (real m (part m (2 * A))) (λ s. ⊖ tangent m A tan s) k X s) (conj_line_root m is A pos divides re im h.of_root)
        ∙ back_is (field_ring m) (field_star m) (axis_backward m is A pos divides h.tangents) k X s l

    -- on the numbers of a line, whose kind may be said in another way
    pub folded_line : (direction : ℕ) → TablesOf m direction re im tan → (kind : ℕ) {k : Kind} → kind_of kind ≡ k → (line : List ℕ) →
        list_of (slots k A) (folded m direction A re im tan k (values_of m line)) ≡ transformed m kind direction (2 * A) line
    folded_line direction h kind {k} e line = transformed_by m A kind direction e line _ (folded_is_transform direction h k (values_of m line))

  -- a plain line, whose transform has N points
  module _ (re im : List ℕ) where
    pub plain_line : table_root m re im ≡ root_for m 0 → (line : List ℕ) → list_of (2 * A) (dft (field m) (2 * A) (pow (field m) (table_root m re im) (2880 / (2 * A))) (values_of m line)) ≡ transformed m 0 0 (2 * A) line
    unfolding slots unfold_before pack_after
    plain_line h line =
        transformed_by m A 0 0 refl line _
        (λ j l. ap (λ v. dft (field m) (2 * A) (pow (field m) v (2880 / (2 * A))) (values_of m line) j) h)

    pub plain_back_line : table_root m re im ≡ root_for m 1 → (line : List ℕ) →
        list_of (2 * A) (λ t. real m (part m (2 * A)) ⊗ dft (field m) (2 * A) (pow (field m) (table_root m re im) (2880 / (2 * A))) (values_of m line) t) ≡ transformed m 0 1 (2 * A) line
    unfolding slots unfold_after pack_before
    plain_back_line h line =
        transformed_by m A 0 1 refl line _
        (λ j l. ap (λ v. real m (part m (2 * A)) ⊗ dft (field m) (2 * A) v (values_of m line) j)
        (ap (λ v. pow (field m) v (2880 / (2 * A))) h ∙ sym (conj_pow (field_ring m) (field_star m) (root m) (2880 / (2 * A)))))
