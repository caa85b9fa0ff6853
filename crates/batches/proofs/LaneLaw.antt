-- A step of sixteen lanes is, lane by lane, the step of one line; so all steps of a list make of each lane's line what they make of one line, its transform.
use mathlib.Core.Path.{◌≡◌, refl, sym, ◌∙◌, ap, subst}
use mathlib.Core.Bool.{true}
use mathlib.Core.List.{List}
use Prim.Native.Nat.{ℕ, zero, suc, ◌+◌, ◌*◌, ◌/◌, ◌%◌, ◌≤◌, ◌<◌}
use native.Mathlib.Omega.{arith}
use lib.ListN.{length}
use Rattle.algebra.specs.ring.Ring.{pow, dft}
use Rattle.numbers.specs.Value.{Value, field, value_of}
use Rattle.numbers.proofs.Values.{field_ring}
use Rattle.slices.specs.Pairs.{values_of, list_of}
use Rattle.slices.proofs.Values.{values_list, list_cong, length_of_lem, below_of}
use Rattle.slices.proofs.Rows.{row_end, row_split}
use Rattle.lengths.specs.Lengths.{product, factors_ok}
use Rattle.butterflies.specs.Equation3.{factor}
use Rattle.butterflies.proofs.Equation3.{direct_dft}
use Rattle.butterflies.proofs.radix.Spreading.{outer_cong}
use Rattle.plain.specs.Plain.{inner_sums, stepped, step_of, StepParts, Splits, inner_length, outer_length, line_count, after_steps}
use Rattle.plain.proofs.EverySplit.{split_whole, transform_after}
use Rattle.plain.proofs.Stepping.{step_parts}
use Rattle.batches.specs.Lanes.{lane_at, line_in, SteppedLanes}

module _ (m : ℕ) (W : Value m) where
  -- a step reads no more than the line
  stepped_alike : (A B M : ℕ) (Y Z : ℕ → Value m) → ((i : ℕ) → i < A * B * M → Y i ≡ Z i) → (j : ℕ) → j < A * B * M → stepped (field m) W A B M Y j ≡ stepped (field m) W A B M Z j
  unfolding stepped
  stepped_alike A B M Y Z alike j lj =
      let row = row_split (M * B) {m = A} {p = j} (omega arith) in
      let line = row_split M {m = B} {p = j / A} row.0 in
      outer_cong (field_ring m) W B _ _ (j / A % B) (λ b lb. ap (factor (field m) W A B b (j % A)) (alike _ (place line.0 row.1 lb)))
    where
      place : {q a b : ℕ} → q < M → a < A → b < B → (b * M + q) * A + a < A * B * M
      place {q} {a} {b} hq ha hb = let row : b * M + q < B * M = omega (arith, row_end M hb) in omega (arith, row_end A row)

  module _ {A B M : ℕ} {from to : List ℕ} (h : SteppedLanes m W A B M from to) {v : ℕ} (lv : v < 16) where
    -- THE law: the line of each lane goes through the step of one line
    pub lane_law : line_in m (A * B * M) v to ≡ step_of m W A B M (line_in m (A * B * M) v from)
    lane_law = list_cong m (A * B * M) _ _ (λ j lj.
        h.each v j lv lj ∙ stepped_alike A B M _ _ (λ i li. sym (values_list m (A * B * M) (λ i. value_of m (lane_at from i v)) i li)) j lj)

    -- and gives its parts of equation (3) there
    pub lane_parts : Splits A B M → pow (field m) W 2880 ≡ (field m).one → (X : ℕ → Value m) → line_in m (A * B * M) v from ≡ list_of (A * B * M) (inner_sums (field m) W A (M * B) X)
        → StepParts m W A B M X (line_in m (A * B * M) v from) (line_in m (A * B * M) v to)
    lane_parts w cycle X came = step_parts m W cycle w X came lane_law

  -- the batches after the steps of a list, one after the other
  module _ (l : List ℕ) (each : factors_ok l ≡ true) (batch : ℕ → List ℕ)
      (steps : (k : ℕ) → k < length l → SteppedLanes m W (inner_length l k) (outer_length l k) (line_count l k) (batch k) (batch (suc k))) {v : ℕ} (lv : v < 16) where
    pub lane_after : (k : ℕ) → k ≤ length l → line_in m (product l) v (batch k) ≡ after_steps m W l k (line_in m (product l) v (batch 0))
    unfolding after_steps
    lane_after zero h = refl
    lane_after (suc k) h =
        let lt : k < length l = omega arith in
        subst (λ n. line_in m n v (batch (suc k)) ≡ step_of m W (inner_length l k) (outer_length l k) (line_count l k) (line_in m n v (batch k))) (split_whole l each k lt) (lane_law (steps k lt) lv)
        ∙ ap (step_of m W (inner_length l k) (outer_length l k) (line_count l k)) (lane_after k (omega arith))

    -- the line of every lane becomes its transform
    pub lane_transform : pow (field m) W 2880 ≡ (field m).one → product l * (2880 / product l) ≡ 2880
        → line_in m (product l) v (batch (length l)) ≡ list_of (product l) (dft (field m) (product l) (pow (field m) W (2880 / product l)) (values_of m (line_in m (product l) v (batch 0))))
    lane_transform cycle divides =
        lane_after (length l) (omega arith)
        ∙ transform_after m W cycle l each divides (line_in m (product l) v (batch 0)) (length_of_lem m (product l) _ refl) (below_of m (product l) _ refl)
        ∙ list_cong m (product l) _ _ (λ j lj. direct_dft (field_ring m) W (product l) (values_of m (line_in m (product l) v (batch 0))) j)
