-- The pass over mates is the fold of a Hermitian line: before the short transform of synthesis, and after that of analysis.
use mathlib.Core.Path.{◌≡◌, refl, sym, ◌∙◌, ap, ap₂}
use mathlib.Core.List.{List, [], ◌∷◌}
use Prim.Native.Nat.{ℕ, zero, suc, ◌*◌, ◌-◌, ◌<◌}
use native.Mathlib.Omega.{arith}
use Rattle.algebra.specs.ring.Ring.{pow, dft, gauss, residues}
use Rattle.algebra.specs.lines.Kinds.{Kind.hermitian}
use Rattle.algebra.specs.lines.Folds.{fold1, back1, hermitian_point, hermitian_value}
use Rattle.algebra.specs.lines.FoldKinds.{fold_forward, fold_back}
use Rattle.algebra.proofs.ring.Solver.{ring, quote, linear}
use Rattle.numbers.specs.Value.{Value, field, conj, i, real, half, part, on_values}
use Rattle.numbers.specs.Value as Value
use Rattle.numbers.proofs.Parts.{half_law}
use Rattle.numbers.proofs.RealValues.{real_add, real_mul}
use Rattle.numbers.proofs.Values.{field_ring, field_star}
use Rattle.fold_formulas.specs.FoldFormulas.{line_root, folded, sum_and_difference}
use Rattle.folded_batches.specs.HermitianLanes.{end_for, share_for, own_factor, mate_factor, mated}

-- it reads the places below A alone
module _ (m direction A : ℕ) (w : Value m) (X Y : ℕ → Value m) (same : (j : ℕ) → j < A → X j ≡ Y j) where
  pub mated_cong : (t : ℕ) → t < A → mated m direction A w X t ≡ mated m direction A w Y t
  unfolding mated
  mated_cong zero l = ap (λ x. (field m).mul (real m (end_for m direction)) (sum_and_difference m x)) (same 0 l)
  mated_cong (suc t) l = ap₂
      (λ x y. (field m).add ((field m).mul (own_factor m direction (pow (field m) w (suc t))) x) ((field m).mul (mate_factor m direction (pow (field m) w (suc t))) (conj m y)))
      (same (suc t) l) (same (A - suc t) (omega arith))

module _ (m : ℕ) where
  open field m use {add as ◌⊕◌, mul as ◌⊗◌, neg as ⊖◌, one as 𝟙}

  infixl 65 ◌⊕◌
  infixl 70 ◌⊗◌
  infix 75 ⊖◌
  pub real_one : real m (Value.ring m).one ≡ 𝟙
  unfolding gauss residues
  real_one = refl

  pub one_times : (z : Value m) → real m (Value.ring m).one ⊗ z ≡ z
  one_times z = ap (λ x. x ⊗ z) real_one ∙ (field_ring m).one_mul z

  module _ (A : ℕ) (w : Value m) (X : ℕ → Value m) where
    pub mated_fold : (t : ℕ) → mated m 0 A w X t ≡ on_values m fold1 A w X t
    unfolding mated fold1 sum_and_difference hermitian_point
    mated_fold zero = one_times _
    mated_fold (suc t) = ring (field_ring m) (i m ∷ pow (field m) w (suc t) ∷ X (suc t) ∷ conj m (X (A - suc t)) ∷ []) (search quote depth 40 fits 9999) refl

    -- half of twice
    halves : (c s : Value m) → real m (half m) ⊗ c ⊗ ((𝟙 ⊕ 𝟙) ⊗ s) ≡ c ⊗ s
    halves c s = linear (field_ring m) (half_law m) (c ⊗ s) (ring (field_ring m) (real m (half m) ∷ c ∷ s ∷ []) (search quote depth 40 fits 9999) refl)

    pub mated_back : (t : ℕ) → real m (share_for m 1 A) ⊗ mated m 1 A w X t ≡ on_values m back1 A (real m (part m (2 * A))) (conj m w) X t
    unfolding mated back1 sum_and_difference hermitian_value
    mated_back zero =
        ap₂ (λ c two. c ⊗ (two ⊗ sum_and_difference m (X 0))) (real_mul m (half m) (part m (2 * A))) (real_add m (Value.ring m).one (Value.ring m).one ∙ ap₂ ◌⊕◌ real_one real_one)
        ∙ halves (real m (part m (2 * A))) (sum_and_difference m (X 0))
    mated_back (suc t) =
        ap (λ c. c ⊗ mated m 1 A w X (suc t)) (real_mul m (half m) (part m (2 * A)))
        ∙ ring (field_ring m) (i m ∷ real m (half m) ∷ real m (part m (2 * A)) ∷ pow (field m) w (suc t) ∷ X (suc t) ∷ conj m (X (A - suc t)) ∷ []) (search quote depth 40 fits 9999) refl
        ∙ ap (λ u. real m (part m (2 * A)) ⊗ on_values m hermitian_value A (pow (field m) u (suc t)) (X (suc t)) (conj m (X (A - suc t)))) (sym ((field_star m).conj_conj w))

-- the folds of the kind
module _ (m A : ℕ) (re im tan : List ℕ) (X : ℕ → Value m) where
  pub folded_forward : (s : ℕ) → dft (field m) A (pow (field m) (line_root m A re im) 2) (on_values m fold1 A (line_root m A re im) X) s ≡ folded m 0 A re im tan hermitian X s
  unfolding fold_forward
  folded_forward s = refl

  folded_back : (t : ℕ) → on_values m back1 A (real m (part m (2 * A))) (conj m (line_root m A re im)) (dft (field m) A (pow (field m) (conj m (conj m (line_root m A re im))) 2) X) t
      ≡ folded m 1 A re im tan hermitian X t
  unfolding fold_back
  folded_back t = refl

  -- the mates of the short transform
  pub mated_folded : (Y : ℕ → Value m) → ((j : ℕ) → j < A → Y j ≡ dft (field m) A (pow (field m) (line_root m A re im) 2) X j) → (t : ℕ) → t < A
      → (field m).mul (real m (share_for m 1 A)) (mated m 1 A (line_root m A re im) Y t) ≡ folded m 1 A re im tan hermitian X t
  mated_folded Y same t l =
      ap ((field m).mul (real m (share_for m 1 A)))
      (mated_cong m 1 A (line_root m A re im) Y (dft (field m) A (pow (field m) (conj m (conj m (line_root m A re im))) 2) X)
      (λ j lj. same j lj ∙ ap (λ u. dft (field m) A (pow (field m) u 2) X j) (sym ((field_star m).conj_conj (line_root m A re im)))) t l)
      ∙ mated_back m A (line_root m A re im) (dft (field m) A (pow (field m) (conj m (conj m (line_root m A re im))) 2) X) t
      ∙ folded_back t
