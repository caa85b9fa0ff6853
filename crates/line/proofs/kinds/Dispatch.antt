-- What the functions over all kinds cite: the facts of an admitted length N = 2 A as the folds and the plain transform ask for them, and each result as the transform.
use mathlib.Core.Path.{◌≡◌, refl, ◌∙◌, sym, ap, ap₂, subst}
use mathlib.Core.List.{List}
use Prim.Native.Nat.{ℕ, zero, suc, ◌*◌, ◌-◌, ◌/◌, ◌≤◌, ◌<◌}
use native.Mathlib.Omega.{arith}
use lib.Dec.{eqb}
use lib.ListN.{length, take}
use lib.Seq.{length-take-le}
use Rattle.algebra.specs.ring.Ring.{Ops, pow, dft}
use Rattle.algebra.specs.lines.Kinds.{Kind, slots}
use Rattle.numbers.specs.Value.{IsModulus, field, real, part}
use Rattle.roots.specs.Table.{table_root, RootTable}
use Rattle.slices.specs.Pairs.{values_of, list_of}
use Rattle.lengths.specs.Lengths.{kind_of, pair_count}
use Rattle.lengths.specs.Admitted.{Factored, AdmittedLength, FactorList}
use Rattle.fold_formulas.specs.FoldFormulas.{Frame, folded}
use Rattle.folds.specs.FoldedLines.{hermitian_kind, mirror_kind}
use Rattle.line.specs.Line.{transformed}
use Rattle.line.specs.Tables.{root_for, TablesOf, LineTables}
use Rattle.lengths.proofs.Counts.{count_half}
use Rattle.line.proofs.kinds.Transforms.{half_length, folded_line, plain_line, plain_back_line}

-- the part of a slice that is lent on
pub prefix_length : (n : ℕ) (l : List ℕ) → n ≤ length l → length (take n l) ≡ n
prefix_length n l h = length-take-le n l h

-- kinds 1 and 2, and kinds 4 and 5, as the folds that serve both have them
pub hermitian_kind_lem : (kind : ℕ) → 0 < kind → kind < 3 → kind_of kind ≡ hermitian_kind (eqb kind 2)
hermitian_kind_lem zero g l = absurd (omega arith)
hermitian_kind_lem (suc zero) g l = refl
hermitian_kind_lem (suc (suc zero)) g l = refl
hermitian_kind_lem (suc (suc (suc k))) g l = absurd (omega arith)

pub mirror_kind_lem : (kind : ℕ) → 4 ≤ kind → kind < 6 → kind_of kind ≡ mirror_kind (kind - 4)
mirror_kind_lem zero g l = absurd (omega arith)
mirror_kind_lem (suc zero) g l = absurd (omega arith)
mirror_kind_lem (suc (suc zero)) g l = absurd (omega arith)
mirror_kind_lem (suc (suc (suc zero))) g l = absurd (omega arith)
mirror_kind_lem (suc (suc (suc (suc zero)))) g l = refl
mirror_kind_lem (suc (suc (suc (suc (suc zero))))) g l = refl
mirror_kind_lem (suc (suc (suc (suc (suc (suc k)))))) g l = absurd (omega arith)

module _ (a : ℕ) (size : AdmittedLength (2 * a)) where
  pub half_positive : 0 < a
  half_positive = omega (arith, size.positive)

  pub half_divides : a * (1440 / a) ≡ 1440
  half_divides = subst (λ n. n * (1440 / n) ≡ 1440) (half_length a) size.half_turns

  pub frame_of : {m : ℕ} {re im : List ℕ} → IsModulus m → RootTable m re im → Frame m a re im
  frame_of is t = record { modulus = is; table = t; positive = half_positive; divides = half_divides }

  pub half_list : {factors : ℕ} → FactorList (2 * a) factors → Factored factors a
  half_list l = subst (Factored _) (half_length a) l.folded

  -- the pairs of a line, by its kind
  pub count_of : (kind : ℕ) {k : Kind} → kind_of kind ≡ k → {n : ℕ} → n ≡ 2 * pair_count kind (2 * a) → n ≡ 2 * slots k a
  count_of kind {k} e h = h ∙ ap (λ k. 2 * slots k (2 * a / 2)) e ∙ ap (λ b. 2 * slots k b) (half_length a)

  pub half_count : (kind : ℕ) → 0 < kind → kind < 4 → {n : ℕ} → n ≡ 2 * pair_count kind (2 * a) → n ≡ 2 * a
  half_count kind g l h = omega (arith, h, count_half kind (2 * a) g l)

  module _ (m : ℕ) (is : IsModulus m) (kind : ℕ) (line : List ℕ) {direction : ℕ} {re im tan : List ℕ} (tables : TablesOf m direction re im tan) where
    -- what the fold of a known direction leaves
    pub folded_by : {k : Kind} → kind_of kind ≡ k → {d : ℕ} → direction ≡ d → {l : List ℕ} → l ≡ list_of (slots k a) (folded m d a re im tan k (values_of m line)) → l ≡ transformed m kind direction (2 * a) line
    folded_by e o el =
        el
        ∙ folded_line m is a half_positive half_divides _ (subst (λ d. TablesOf m d re im tan) o tables) kind e line
        ∙ ap (λ d. transformed m kind d (2 * a) line) (sym o)

  module _ (m : ℕ) (is : IsModulus m) (kind : ℕ) (line : List ℕ) {direction : ℕ} {re im tan : List ℕ} (tables : LineTables m kind direction re im tan) where
    pub plain_by : kind ≡ 0 → direction ≡ 0 → {l : List ℕ} →
        l ≡ list_of (2 * a) (dft (field m) (2 * a) (pow (field m) (table_root m re im) (2880 / (2 * a))) (values_of m line)) → l ≡ transformed m kind direction (2 * a) line
    plain_by e o el = el ∙ plain_line m is a half_positive half_divides re im (tables.of_root ∙ ap (root_for m) o) line ∙ ap₂ (λ k d. transformed m k d (2 * a) line) (sym e) (sym o)

    pub plain_back_by : kind ≡ 0 → direction ≡ 1 → {l : List ℕ} →
        l ≡ list_of (2 * a) (λ t. (field m).mul (real m (part m (2 * a))) (dft (field m) (2 * a) (pow (field m) (table_root m re im) (2880 / (2 * a))) (values_of m line) t)) → l ≡ transformed m kind direction (2 * a) line
    plain_back_by e o el = el ∙ plain_back_line m is a half_positive half_divides re im (tables.of_root ∙ ap (root_for m) o) line ∙ ap₂ (λ k d. transformed m k d (2 * a) line) (sym e) (sym o)
