-- The steps of a list of factors, from the line to its transform: before each the slice holds the inner sums, and each gives its parts of equation (3).
use mathlib.Core.Path.{◌≡◌, refl, sym, ◌∙◌, ap}
use mathlib.Core.Bool.{true}
use mathlib.Core.List.{List}
use Prim.Native.Nat.{ℕ, zero, suc, ◌*◌, ◌/◌, ◌≤◌, ◌<◌}
use native.Mathlib.Nat as N
use native.Mathlib.Numerals.{add-one}
use native.Mathlib.Omega.{arith}
use lib.ListN.{length, get_or, drop}
use Rattle.algebra.specs.ring.Ring.{pow}
use Rattle.numbers.specs.Value.{prime, Value, field}
use Rattle.numbers.proofs.Values.{field_ring}
use Rattle.slices.specs.Pairs.{Below, values_of, list_of}
use Rattle.slices.proofs.Values.{list_values, list_cong}
use Rattle.lengths.specs.Lengths.{product, factors_ok}
use Rattle.lengths.proofs.Factors.{factor_at_lem, factors_rest, product_drop, product_past, product_take, product_parts, product_positive}
use Rattle.lengths.proofs.stage.Divisors.{divisor_pos}
use Rattle.butterflies.specs.Equation3.{direct}
use Rattle.butterflies.proofs.Equation3.{direct_dft}
use Rattle.plain.specs.Plain.{inner_sums, Splits, StepParts, inner_length, outer_length, line_count, after_steps}
use Rattle.plain.proofs.Equation3.{inner_start, inner_end}
use Rattle.plain.proofs.Stepping.{longer_sums, step_parts}

module _ (l : List ℕ) (each : factors_ok l ≡ true) (k : ℕ) (h : k < length l) where
  -- the factor of a step and the rest
  rest_split : product (drop k l) ≡ line_count l k * outer_length l k
  rest_split = product_drop l k h ∙ ap (λ (n : ℕ). get_or l k 0 * product (drop n l)) (add-one k) ∙ N.mul_comm (get_or l k 0) (line_count l k)

  pub split_whole : inner_length l k * outer_length l k * line_count l k ≡ product l
  split_whole = N.mul_assoc (inner_length l k) (outer_length l k) (line_count l k)
      ∙ ap (λ n. inner_length l k * n) (N.mul_comm (outer_length l k) (line_count l k) ∙ sym rest_split) ∙ product_parts l k

  split_of : product l * (2880 / product l) ≡ 2880 → Splits (inner_length l k) (outer_length l k) (line_count l k)
  split_of divides = record {
    inner = divisor_pos (inner_length l k) (product (drop k l) * (2880 / product l)) (sym (N.mul_assoc (inner_length l k) (product (drop k l)) (2880 / product l)) ∙ ap (λ n. n * (2880 / product l)) (product_parts l k) ∙ divides);
    low = (factor_at_lem l k each h).0;
    high = (factor_at_lem l k each h).1;
    lines = product_positive (drop (suc k) l) (factors_rest l (suc k) each);
    divides = rw split_whole divides;
  }

module _ (m : ℕ) (W : Value m) (cycle : pow (field m) W 2880 ≡ (field m).one) (l : List ℕ) (each : factors_ok l ≡ true) (divides : product l * (2880 / product l) ≡ 2880)
    (line : List ℕ) (long : length line ≡ 2 * product l) (below : Below (prime m) line) where
  -- what a slice holds before the step of place k
  before_step : (k : ℕ) → k < length l → {slice : List ℕ} → slice ≡ list_of (product l) (inner_sums (field m) W (inner_length l k) (product (drop k l)) (values_of m line))
      → slice ≡ list_of (inner_length l k * outer_length l k * line_count l k) (inner_sums (field m) W (inner_length l k) (line_count l k * outer_length l k) (values_of m line))
  before_step k h e =
      e ∙ ap (λ n. list_of (product l) (inner_sums (field m) W (inner_length l k) n (values_of m line))) (rest_split l each k h)
      ∙ ap (λ n. list_of n (inner_sums (field m) W (inner_length l k) (line_count l k * outer_length l k) (values_of m line))) (sym (split_whole l each k h))

  pub sums_after : (k : ℕ) → k ≤ length l → after_steps m W l k line ≡ list_of (product l) (inner_sums (field m) W (inner_length l k) (product (drop k l)) (values_of m line))
  unfolding after_steps product
  sums_after zero h = list_values m (product l) line long below ∙ list_cong m (product l) _ _ (λ j lj. sym (inner_start (field_ring m) W (product l) (values_of m line) j))
  sums_after (suc k) h =
      let lt : k < length l = omega arith in
      longer_sums m W cycle (split_of l each k lt divides) (values_of m line) (before_step k lt (sums_after k (omega arith))) refl
      ∙ ap (λ n. list_of n (inner_sums (field m) W (inner_length l k * outer_length l k) (line_count l k) (values_of m line))) (split_whole l each k lt)
      ∙ ap (λ n. list_of (product l) (inner_sums (field m) W n (line_count l k) (values_of m line))) (sym (product_take l k lt))

  pub parts_after : (k : ℕ) → k < length l → StepParts m W (inner_length l k) (outer_length l k) (line_count l k) (values_of m line) (after_steps m W l k line) (after_steps m W l (suc k) line)
  unfolding after_steps
  parts_after k h = step_parts m W cycle (split_of l each k h divides) (values_of m line) (before_step k h (sums_after k (omega arith))) refl

  pub transform_after : after_steps m W l (length l) line ≡ list_of (product l) (direct (field m) W (product l) (values_of m line))
  transform_after =
      let none : product (drop (length l) l) ≡ 1 = product_past l (length l) (omega arith) in
      let all : inner_length l (length l) ≡ product l = sym (N.mul-one _) ∙ ap (λ n. inner_length l (length l) * n) (sym none) ∙ product_parts l (length l) in
      sums_after (length l) (omega arith)
      ∙ ap (λ n. list_of (product l) (inner_sums (field m) W n (product (drop (length l) l)) (values_of m line))) all
      ∙ ap (λ n. list_of (product l) (inner_sums (field m) W (product l) n (values_of m line))) none
      ∙ list_cong m (product l) _ _ (λ j lj. inner_end (field_ring m) W (product l) (values_of m line) j lj ∙ sym (direct_dft (field_ring m) W (product l) (values_of m line) j))
