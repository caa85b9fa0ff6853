-- A step makes longer inner sums of inner sums: equation (3) on the numbers of two slices.
use mathlib.Core.Path.{◌≡◌, sym, ◌∙◌, ap, subst}
use mathlib.Core.List.{List}
use Prim.Native.Nat.{ℕ, ◌+◌, ◌*◌, ◌/◌, ◌%◌, ◌<◌}
use native.Mathlib.Omega.{arith}
use Rattle.algebra.specs.ring.Ring.{pow}
use Rattle.numbers.specs.Value.{Value, field}
use Rattle.numbers.proofs.Values.{field_ring}
use Rattle.slices.specs.Pairs.{values_of, list_of}
use Rattle.slices.proofs.Rows.{row_end}
use Rattle.slices.proofs.Values.{values_list, list_cong}
use Rattle.plain.specs.Plain.{inner_sums, stepped, step_of, StepParts, Splits}
use Rattle.lengths.specs.declared.stage.Stage.{Stage}
use Rattle.lengths.specs.Stages.{points, after, Ahead}
use Rattle.lengths.proofs.stage.Factoring.{next_length}
use Rattle.plain.proofs.Splitting.{next_splits}
use Rattle.plain.proofs.Equation3.{found_at, parts_at, together_at, equation_3}

-- ---- a step, from the inner sums of X to longer ones

module _ (m : ℕ) (W : Value m) (cycle : pow (field m) W 2880 ≡ (field m).one) {A B M : ℕ} (h : Splits A B M) {from to : List ℕ} (X : ℕ → Value m)
    (came : from ≡ list_of (A * B * M) (inner_sums (field m) W A (M * B) X)) (left : to ≡ step_of m W A B M from) where
  -- the values that are read are the inner sums
  values_came : (j : ℕ) → j < A * B * M → values_of m from j ≡ inner_sums (field m) W A (M * B) X j
  values_came j l = ap (λ x. values_of m x j) came ∙ values_list m (A * B * M) _ j l

  pub longer_sums : to ≡ list_of (A * B * M) (inner_sums (field m) W (A * B) M X)
  longer_sums = left ∙ list_cong m (A * B * M) _ _ (equation_3 (field_ring m) W h cycle X values_came)

  -- part by part
  pub step_parts : StepParts m W A B M X from to
  step_parts = record {
    inner_sum = λ q b 𝐚 hq hb ha. values_came ((b * M + q) * A + 𝐚) (read_place hq hb ha) ∙ found_at (field_ring m) W A B M X q b ha;
    outer_sum = λ q 𝐚 𝐛 hq ha hb. value_left hq ha hb ∙ parts_at (field_ring m) W h cycle X values_came hq ha hb;
    direct_sum = λ q 𝐚 𝐛 hq ha hb. value_left hq ha hb ∙ together_at (field_ring m) W h cycle X values_came hq ha hb;
  }
    where
      read_place : {q b 𝐚 : ℕ} → q < M → b < B → 𝐚 < A → (b * M + q) * A + 𝐚 < A * B * M
      read_place {q} {b} hq hb ha = let row : b * M + q < B * M = omega (arith, row_end M hb) in omega (arith, row_end A row)

      value_left : {q 𝐚 𝐛 : ℕ} → q < M → 𝐚 < A → 𝐛 < B → values_of m to (q * (A * B) + (𝐚 + 𝐛 * A)) ≡ stepped (field m) W A B M (values_of m from) ((q * B + 𝐛) * A + 𝐚)
      value_left {q} {𝐚} {𝐛} hq ha hb =
          let place : q * (A * B) + (𝐚 + 𝐛 * A) ≡ (q * B + 𝐛) * A + 𝐚 = omega arith in
          let row : q * B + 𝐛 < M * B = omega (arith, row_end B hq) in
          ap (values_of m to) place ∙ ap (λ x. values_of m x ((q * B + 𝐛) * A + 𝐚)) left ∙ values_list m (A * B * M) _ ((q * B + 𝐛) * A + 𝐚) (omega (arith, row_end A row))

-- ---- the step of a stage

module _ {s : Stage} (a : Ahead s) {s' : Stage} (e : s' ≡ after s) where
  lines_after : s.lines / (s.left % 8) ≡ s'.lines
  unfolding after
  lines_after = sym (ap (λ (t : Stage). t.lines) e)

  pub step_splits : Splits s.inner (s.left % 8) s'.lines
  step_splits = subst (Splits s.inner (s.left % 8)) lines_after (next_splits s.inner a.factors a.more a.divides)

  pub step_long : {k : ℕ} → k ≡ 2 * points s → k ≡ 2 * (s.inner * (s.left % 8) * s'.lines)
  step_long long = long ∙ ap (λ k. 2 * k) (sym (next_length s.inner a.factors a.more)) ∙ ap (λ k. 2 * (s.inner * (s.left % 8) * k)) lines_after

  pub step_left : (m : ℕ) (W : Value m) (from : List ℕ) {to : List ℕ} → to ≡ step_of m W s.inner (s.left % 8) s'.lines from
      → to ≡ step_of m W s.inner (s.left % 8) (s.lines / (s.left % 8)) from
  step_left m W from {to} left = subst (λ M. to ≡ step_of m W s.inner (s.left % 8) M from) (sym lines_after) left
