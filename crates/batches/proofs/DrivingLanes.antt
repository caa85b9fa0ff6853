-- The steps of a list over a batch: in each lane what plain's `Standing` says of one line, and the growth of the numbers.
use mathlib.Core.Path.{◌≡◌, refl, sym, ◌∙◌, ap, subst}
use mathlib.Core.Bool.{true}
use mathlib.Core.Logic.{◌≢◌}
use mathlib.Core.List.{List}
use Prim.Native.Nat.{ℕ, zero, suc, ◌+◌, ◌*◌, ◌/◌, ◌%◌, ◌≤◌, ◌<◌}
use native.Mathlib.Nat.{mul-le-mul_left}
use native.Mathlib.Omega.{arith}
use lib.Dec.{lit<}
use lib.ListN.{length, take}
use Rattle.algebra.specs.ring.Ring.{pow}
use Rattle.numbers.specs.Value.{prime, IsModulus, Value, field}
use Rattle.numbers.proofs.Primes.{prime_most}
use Rattle.roots.specs.Table.{table_root, RootTable}
use Rattle.slices.specs.Pairs.{at, fills}
use Rattle.slices.proofs.Pairs.{fills_whole}
use Rattle.slices.proofs.Values.{length_of_lem, below_of}
use Rattle.lengths.specs.declared.stage.Stage.{Stage}
use Rattle.lengths.specs.Lengths.{product, factors_ok, octal_digits}
use Rattle.lengths.specs.Admitted.{Factored}
use Rattle.lengths.specs.Stages.{points, after, Ahead}
use Rattle.lengths.proofs.Factors.{few, factor_at_lem, product_take}
use Rattle.lengths.proofs.stage.Divisors.{divisor_le}
use Rattle.lengths.proofs.stage.Factoring.{next_length}
use Rattle.lengths.proofs.stage.Listing.{digits_listed}
use Rattle.plain.specs.Plain.{step_of, after_steps}
use Rattle.plain.proofs.Stepping.{step_long}
use Rattle.plain.proofs.Driving.{Lent, Standing, standing_start, standing_last, standing_end, step_asks, standing_next}
use Rattle.batches.specs.Reduction.{ShiftedTable}
use Rattle.batches.specs.Lanes.{line_in, UpTo, SteppedLanes}
use Rattle.batches.specs.Transforms.{TransformedLanes}
use Rattle.batches.proofs.LaneLaw.{lane_law}

pub up_as : {X Y : ℕ} {l : List ℕ} → UpTo X l → X ≤ Y → UpTo Y l
up_as {X} {Y} {l} h le = record { each = λ k. omega (arith, h.each k) }

-- what the transform of a batch is lent
pub record LentLanes (m : ℕ) (W : Value m) (factors n : ℕ) (line : List ℕ) : Type 0 where
  pub modulus : IsModulus m
  pub list : Factored factors n
  pub divides : n * (2880 / n) ≡ 2880
  pub cycle : pow (field m) W 2880 ≡ (field m).one
  pub long : length line ≡ 32 * n
  pub low : UpTo (8 * prime m) line

pub lent_lanes : {m : ℕ} {re im sre sim line : List ℕ} {factors n : ℕ} → IsModulus m × RootTable m re im × ShiftedTable m re im sre sim → Factored factors n × (n * (2880 / n) ≡ 2880)
    → length line ≡ 32 * n → UpTo (8 * prime m) line → LentLanes m (table_root m re im) factors n line
lent_lanes modulus list long low = record { modulus = modulus.0; list = list.0; divides = list.1; cycle = modulus.1.cycle; long = long; low = low }

-- A batch holds in each lane what the first k steps leave of its line, at their stage.
pub record StandingLanes (m : ℕ) (W : Value m) (factors n : ℕ) (line : List ℕ) (k : ℕ) (s : Stage) (slice : List ℕ) : Type 0 where
  pub long : length slice ≡ 32 * n
  pub grown : (X : ℕ) → UpTo X line → UpTo (X + 32 * prime m * k) slice
  pub lanes : (v : ℕ) → v < 16 → Standing m W factors (line_in m n v line) k s (line_in m n v slice)

-- the product of the first k factors is more than k
factors_grow : (l : List ℕ) → factors_ok l ≡ true → (k : ℕ) → k ≤ length l → k < product (take k l)
unfolding product
factors_grow l each zero h = omega arith
factors_grow l each (suc k) h =
    let lt : k < length l = omega arith in
    omega (arith, factors_grow l each k (omega arith), product_take l k lt, mul-le-mul_left (product (take k l)) (factor_at_lem l k each lt).0)

module _ {m : ℕ} {W : Value m} {factors n : ℕ} {line : List ℕ} (lent : LentLanes m W factors n line) where
  lane_lent : (v : ℕ) → Lent m W factors n (line_in m n v line)
  lane_lent v = record { list = lent.list; divides = lent.divides; cycle = lent.cycle; long = length_of_lem m n _ refl; below = below_of m n _ refl }

  each : factors_ok (octal_digits factors) ≡ true
  each = (digits_listed lent.list).each

  steps_few : length (octal_digits factors) ≤ 11
  steps_few = few 11 (octal_digits factors) each (omega (arith, (digits_listed lent.list).product_is, divisor_le n (2880 / n) lent.divides))

  pub lanes_start : StandingLanes m W factors n line 0 (record { left = factors; inner = 1; lines = n }) line
  lanes_start = record { long = lent.long; grown = λ X up. up_as up (omega arith); lanes = λ v lv. standing_start (lane_lent v) }

  module _ {k : ℕ} {s : Stage} {slice : List ℕ} (h : StandingLanes m W factors n line k s slice) where
    abbrev one : Standing m W factors (line_in m n 0 line) k s (line_in m n 0 slice)
    one = h.lanes 0 (lit< tt)

    pub lanes_low : UpTo 1073741823 slice
    lanes_low =
        let most : k ≤ 11 = omega (arith, one.low, steps_few) in
        up_as (h.grown (8 * prime m) lent.low) (omega (arith, mul-le-mul_left (32 * prime m) most, prime_most lent.modulus))

    -- in the first step the numbers are small
    pub lanes_first : s.inner ≡ 1 → UpTo (8 * prime m) slice
    lanes_first e =
        let none : k ≡ 0 = omega (arith, factors_grow (octal_digits factors) each k one.low, ap (λ (t : Stage). t.inner) one.stage_is, e) in
        up_as (h.grown (8 * prime m) lent.low) (omega (arith, ap (λ i. 32 * prime m * i) none))

    pub lanes_end : s.left ≡ 0 → TransformedLanes m W factors n line slice
    lanes_end z = record {
      long = h.long;
      few = steps_few;
      low = λ X up. subst (λ i. UpTo (X + 32 * prime m * i) slice) (standing_last (lane_lent 0) one z) (h.grown X up);
      steps = λ v lv. (h.lanes v lv).holds ∙ ap (λ i. after_steps m W (octal_digits factors) i (line_in m n v line)) (standing_last (lane_lent v) (h.lanes v lv) z);
      is = λ v lv. standing_end (lane_lent v) (h.lanes v lv) z;
    }

    module _ (more : s.left ≢ 0) where
      ahead : Ahead s
      ahead = (step_asks (lane_lent 0) one more {other = 2 * n} refl).0

      whole : points s ≡ n
      whole = let e = (step_asks (lane_lent 0) one more {other = 2 * n} refl).1.0.1 in omega (arith, e)

      pub lanes_asks : {other : ℕ} → other ≡ 32 * n
          → (Ahead s × (length slice ≡ 32 * points s) × (other ≡ 32 * points s)) × (UpTo 1073741823 slice × (s.inner ≡ 1 → UpTo (8 * prime m) slice))
      lanes_asks long = ((ahead, omega (arith, h.long, whole), omega (arith, long, whole)), (lanes_low, lanes_first))

      pub lanes_next : {s' : Stage} {to : List ℕ} → s' ≡ after s → SteppedLanes m W s.inner (s.left % 8) (s.lines / (s.left % 8)) slice to
          → ((X : ℕ) → UpTo X slice → UpTo (X + 32 * prime m) to) → length to ≡ 32 * n → StandingLanes m W factors n line (suc k) s' to
      lanes_next {to = to} e stepped grows long = record {
        long = long;
        grown = λ X up. up_as (grows _ (h.grown X up)) (omega arith);
        lanes = λ v lv. standing_next (lane_lent v) (h.lanes v lv) more e
            (subst (λ i. line_in m i v to ≡ step_of m W s.inner (s.left % 8) (s.lines / (s.left % 8)) (line_in m i v slice))
            (next_length s.inner ahead.factors ahead.more ∙ whole) (lane_law m W stepped lv));
      }

-- ---- the loop

-- what the steps that are done leave is in the batch
pub record DrivingLanes (m : ℕ) (W : Value m) (factors n : ℕ) (s : Stage) (line₀ line work : List ℕ) : Type 0 where
  pub place : ℕ
  pub stands : StandingLanes m W factors n line₀ place s line
  pub work_long : length work ≡ 32 * n

-- copied from the work slice
pub lanes_copied : {m : ℕ} {W : Value m} {factors n : ℕ} {line₀ : List ℕ} (line : List ℕ) {work line' : List ℕ} → TransformedLanes m W factors n line₀ work → length line ≡ 32 * n → line' ≡ fills (at work) (16 * n) line
    → TransformedLanes m W factors n line₀ line'
lanes_copied {m} {W} {factors} {n} {line₀} line {work} h long is =
    subst (TransformedLanes m W factors n line₀) (sym (is ∙ fills_whole (16 * n) work line (omega (arith, h.long)) (omega (arith, long)))) h

-- ---- the step of a stage

module _ {s : Stage} (a : Ahead s) {s' : Stage} (e : s' ≡ after s) where
  lines_after : s.lines / (s.left % 8) ≡ s'.lines
  unfolding after
  lines_after = sym (ap (λ (t : Stage). t.lines) e)

  pub batch_long : {k : ℕ} → k ≡ 32 * points s → k ≡ 32 * (s.inner * (s.left % 8) * s'.lines)
  batch_long {k} long = omega (arith, long, step_long a e {k = 2 * points s} refl)

  pub batch_left : {m : ℕ} {W : Value m} {from to : List ℕ} → SteppedLanes m W s.inner (s.left % 8) s'.lines from to → SteppedLanes m W s.inner (s.left % 8) (s.lines / (s.left % 8)) from to
  batch_left {m} {W} {from} {to} h = subst (λ M. SteppedLanes m W s.inner (s.left % 8) M from to) (sym lines_after) h
