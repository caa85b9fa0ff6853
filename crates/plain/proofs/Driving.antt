-- The driver's loop over the factors: what stands in the line and in the work slice before each round of two steps, and at the end.
use mathlib.Core.Path.{◌≡◌, refl, sym, ◌∙◌, ap, ap₂, subst}
use mathlib.Core.Bool.{Bool, true, cond}
use mathlib.Core.Logic.{◌≢◌, ⊎_elim}
use mathlib.Core.List.{List}
use Prim.Native.Nat.{ℕ, zero, suc, ◌*◌, ◌/◌, ◌%◌, ◌≤◌, ◌<◌}
use native.Mathlib.Omega.{arith}
use borrow.Author.Tests.{eq-eqb, ne_eqb}
use lib.ListN.{length, drop}
use Rattle.algebra.specs.ring.Ring.{pow, dft}
use Rattle.numbers.specs.Value.{prime, Value, field}
use Rattle.numbers.proofs.Values.{field_ring}
use Rattle.slices.specs.Pairs.{at, fills, Below, values_of, list_of}
use Rattle.slices.proofs.Pairs.{lt_or_ge, fills_whole}
use Rattle.slices.proofs.Values.{list_cong, length_of_lem, below_of}
use Rattle.butterflies.proofs.Equation3.{direct_dft}
use Rattle.plain.specs.Plain.{step_of, inner_length, outer_length, after_steps, work_after}
use Rattle.lengths.specs.declared.stage.Stage.{Stage}
use Rattle.lengths.specs.Lengths.{octal, product, factors_ok, octal_digits}
use Rattle.lengths.specs.Admitted.{Factored}
use Rattle.lengths.specs.Stages.{points, after, split_stage, Ahead}
use Rattle.lengths.proofs.Digits.{octal_of_digits}
use Rattle.lengths.proofs.Factors.{factor_at_lem, factors_of_lem, factors_rest, octal_drop, octal_past, product_parts}
use Rattle.lengths.proofs.stage.Factoring.{packed}
use Rattle.lengths.proofs.stage.Listing.{digits_listed}
use Rattle.lengths.proofs.stage.Staging.{next_of, lines_of_lem, split_next}
use Rattle.plain.proofs.EverySplit.{split_whole, transform_after}

-- What the transform is lent: the number of a list of n points, a root, and the numbers of a line.
pub record Lent (m : ℕ) (W : Value m) (factors n : ℕ) (line : List ℕ) : Type 0 where
  pub list : Factored factors n
  pub divides : n * (2880 / n) ≡ 2880
  pub cycle : pow (field m) W 2880 ≡ (field m).one
  pub long : length line ≡ 2 * n
  pub below : Below (prime m) line

-- A slice holds what the first k steps leave of the line, at their stage.
pub record Standing (m : ℕ) (W : Value m) (factors : ℕ) (line : List ℕ) (k : ℕ) (s : Stage) (slice : List ℕ) : Type 0 where
  pub low : k ≤ length (octal_digits factors)
  pub stage_is : s ≡ split_stage (octal_digits factors) k
  pub holds : slice ≡ after_steps m W (octal_digits factors) k line

-- the list after a step
pub after_left : (s : Stage) {s' : Stage} → s' ≡ after s → s'.left ≡ s.left / 8
unfolding after
after_left s e = ap (λ (t : Stage). t.left) e

module _ {m : ℕ} {W : Value m} {factors n : ℕ} {line : List ℕ} (lent : Lent m W factors n line) where
  each : factors_ok (octal_digits factors) ≡ true
  each = (digits_listed lent.list).each

  product_is : product (octal_digits factors) ≡ n
  product_is = (digits_listed lent.list).product_is

  pub standing_start : Standing m W factors line 0 (record { left = factors; inner = 1; lines = n }) line
  unfolding after_steps product
  standing_start = record {
    low = omega arith;
    stage_is = ap₂ (λ (x y : ℕ). record { left = x; inner = 1; lines = y }) (sym (octal_of_digits factors)) (sym product_is);
    holds = refl;
  }

  -- the slices keep their length, and hold residues
  steps_long : (k : ℕ) → k ≤ length (octal_digits factors) → length (after_steps m W (octal_digits factors) k line) ≡ 2 * n
  unfolding after_steps
  steps_long zero h = lent.long
  steps_long (suc k) h = length_of_lem m _ _ refl ∙ ap (λ x. 2 * x) (split_whole (octal_digits factors) each k (omega arith) ∙ product_is)

  steps_below : (k : ℕ) → Below (prime m) (after_steps m W (octal_digits factors) k line)
  unfolding after_steps
  steps_below zero = lent.below
  steps_below (suc k) = below_of m _ _ refl

  module _ {k : ℕ} {s : Stage} {slice : List ℕ} (h : Standing m W factors line k s slice) where
    pub standing_long : length slice ≡ 2 * n
    standing_long = ap length h.holds ∙ steps_long k h.low

    left_is : s.left ≡ octal (drop k (octal_digits factors))
    left_is = ap (λ (t : Stage). t.left) h.stage_is

    -- no factor is left
    pub standing_last : s.left ≡ 0 → k ≡ length (octal_digits factors)
    standing_last z = ⊎_elim (λ lt. absurd (omega (arith, factored_more lt))) (λ ge. omega (arith, h.low)) (lt_or_ge k (length (octal_digits factors)))
      where
        factored_more : k < length (octal_digits factors) → 2 ≤ s.left
        factored_more lt = omega (arith, left_is, octal_drop (octal_digits factors) k lt, (factor_at_lem (octal_digits factors) k each lt).0)

    pub standing_end : s.left ≡ 0 → slice ≡ list_of n (dft (field m) n (pow (field m) W (2880 / n)) (values_of m line))
    standing_end z =
        h.holds ∙ ap (λ i. after_steps m W (octal_digits factors) i line) (standing_last z)
        ∙ transform_after m W lent.cycle (octal_digits factors) each (subst (λ i. i * (2880 / i) ≡ 2880) (sym product_is) lent.divides) line (lent.long ∙ ap (λ i. 2 * i) (sym product_is)) lent.below
        ∙ list_cong m _ _ _ (λ j lj. direct_dft (field_ring m) W _ (values_of m line) j)
        ∙ ap (λ i. list_of i (dft (field m) i (pow (field m) W (2880 / i)) (values_of m line))) product_is

    -- the next step
    module _ (more : s.left ≢ 0) where
      place_low : k < length (octal_digits factors)
      place_low = ⊎_elim (λ lt. lt) (λ ge. absurd (more (left_is ∙ octal_past (octal_digits factors) k ge))) (lt_or_ge k (length (octal_digits factors)))

      whole : points s ≡ n
      whole = ap (λ (t : Stage). points t) h.stage_is ∙ product_parts (octal_digits factors) k ∙ product_is

      pub step_asks : {other : ℕ} → other ≡ 2 * n → Ahead s × (((length slice ≡ 2 * points s) × (other ≡ 2 * points s)) × Below (prime m) slice)
      step_asks long = (
        record { factors = left_list; more = more; divides = rw whole lent.divides },
        ((standing_long ∙ ap (λ i. 2 * i) (sym whole), long ∙ ap (λ i. 2 * i) (sym whole)), subst (Below (prime m)) (sym h.holds) (steps_below k)),
      )
        where
          left_list : Factored s.left s.lines
          left_list = subst (λ (t : Stage). Factored t.left t.lines) (sym h.stage_is) (packed (factors_of_lem (drop k (octal_digits factors)) (factors_rest (octal_digits factors) k each)))

      pub standing_next : {s' : Stage} {to : List ℕ} → s' ≡ after s → to ≡ step_of m W s.inner (s.left % 8) (s.lines / (s.left % 8)) slice → Standing m W factors line (suc k) s' to
      unfolding after_steps
      standing_next e step = record {
        low = omega (arith, place_low);
        stage_is = e ∙ ap after h.stage_is ∙ split_next (octal_digits factors) each k place_low;
        holds = step
            ∙ ap (λ (t : Stage). step_of m W t.inner (t.left % 8) (t.lines / (t.left % 8)) slice) h.stage_is
            ∙ ap (λ B. step_of m W (inner_length (octal_digits factors) k) B (product (drop k (octal_digits factors)) / B) slice) (next_of (octal_digits factors) each k place_low)
            ∙ ap₂ (λ M x. step_of m W (inner_length (octal_digits factors) k) (outer_length (octal_digits factors) k) M x) (lines_of_lem (octal_digits factors) each k place_low) h.holds;
      }

-- ---- the loop

-- An even number of steps is done, and what they leave is in the line.
pub record Driving (m : ℕ) (W : Value m) (factors n : ℕ) (s : Stage) (line₀ work₀ line work : List ℕ) : Type 0 where
  pub lent : Lent m W factors n line₀
  pub place : ℕ
  pub even : place % 2 ≡ 0
  pub stands : Standing m W factors line₀ place s line
  pub work_is : work ≡ work_after m W (octal_digits factors) place line₀ work₀
  pub work_long : length work ≡ 2 * n

-- the work slice after a step into it, and after one out of it
module _ (m : ℕ) (W : Value m) (l : List ℕ) (k : ℕ) (line work : List ℕ) (even : k % 2 ≡ 0) where
  work_next : work_after m W l (suc k) line work ≡ after_steps m W l (suc k) line
  unfolding work_after
  work_next = ap (λ (b : Bool). cond b (after_steps m W l (suc k) line) (work_after m W l k line work)) (eq-eqb (k % 2) 0 even)

  work_kept : work_after m W l (suc (suc k)) line work ≡ work_after m W l (suc k) line work
  unfolding work_after
  work_kept = ap (λ (b : Bool). cond b (after_steps m W l (suc (suc k)) line) (work_after m W l (suc k) line work)) (ne_eqb (suc k % 2) 0 (λ e. omega arith))

module _ {m : ℕ} {W : Value m} {factors n : ℕ} {line₀ : List ℕ} where
  pub driving_start : {work : List ℕ} → Lent m W factors n line₀ → length work ≡ 2 * n → Driving m W factors n (record { left = factors; inner = 1; lines = n }) line₀ work line₀ work
  unfolding work_after
  driving_start lent work_long = record { lent = lent; place = 0; even = refl; stands = standing_start lent; work_is = refl; work_long = work_long }

  module _ {s : Stage} {work₀ line work : List ℕ} (d : Driving m W factors n s line₀ work₀ line work) where
    -- no factor is left
    pub driving_end : s.left ≡ 0 → (line ≡ list_of n (dft (field m) n (pow (field m) W (2880 / n)) (values_of m line₀)))
        × ((line ≡ after_steps m W (octal_digits factors) (length (octal_digits factors)) line₀) × (work ≡ work_after m W (octal_digits factors) (length (octal_digits factors)) line₀ work₀))
    driving_end z =
        let all = standing_last d.lent d.stands z in
        (standing_end d.lent d.stands z, (d.stands.holds ∙ ap (λ i. after_steps m W (octal_digits factors) i line₀) all, d.work_is ∙ ap (λ i. work_after m W (octal_digits factors) i line₀ work₀) all))

    module _ (more : s.left ≢ 0) where
      pub driving_asks : Ahead s × (((length line ≡ 2 * points s) × (length work ≡ 2 * points s)) × Below (prime m) line)
      driving_asks = step_asks d.lent d.stands more d.work_long

      -- a step into the work slice
      module _ {t : Stage} {work' : List ℕ} (next : t ≡ after s) (step : work' ≡ step_of m W s.inner (s.left % 8) (s.lines / (s.left % 8)) line) where
        there : Standing m W factors line₀ (suc d.place) t work'
        there = standing_next d.lent d.stands more next step

        -- one back into the line
        pub driving_asks_back : t.left ≢ 0 → Ahead t × (((length work' ≡ 2 * points t) × (length line ≡ 2 * points t)) × Below (prime m) work')
        driving_asks_back again = step_asks d.lent there again (standing_long d.lent d.stands)

        pub driving_next : {s' : Stage} {line' : List ℕ} → t.left ≢ 0 → s' ≡ after t → line' ≡ step_of m W t.inner (t.left % 8) (t.lines / (t.left % 8)) work'
            → Driving m W factors n s' line₀ work₀ line' work'
        driving_next again next' step' = record {
          lent = d.lent;
          place = suc (suc d.place);
          even = let e = d.even in omega arith;
          stands = standing_next d.lent there again next' step';
          work_is = there.holds ∙ sym (work_kept m W (octal_digits factors) d.place line₀ work₀ d.even ∙ work_next m W (octal_digits factors) d.place line₀ work₀ d.even);
          work_long = standing_long d.lent there;
        }

        -- or, as the last one, copied into the line
        pub driving_last : {line' : List ℕ} → t.left ≡ 0 → line' ≡ fills (at work') n line → (line' ≡ list_of n (dft (field m) n (pow (field m) W (2880 / n)) (values_of m line₀)))
            × ((line' ≡ after_steps m W (octal_digits factors) (length (octal_digits factors)) line₀) × (work' ≡ work_after m W (octal_digits factors) (length (octal_digits factors)) line₀ work₀))
        driving_last z copied =
            let all = standing_last d.lent there z in
            let whole = copied ∙ fills_whole n work' line (standing_long d.lent there) (standing_long d.lent d.stands) in (
              whole ∙ standing_end d.lent there z,
              (
                whole ∙ there.holds ∙ ap (λ i. after_steps m W (octal_digits factors) i line₀) all,
                there.holds ∙ sym (work_next m W (octal_digits factors) d.place line₀ work₀ d.even) ∙ ap (λ i. work_after m W (octal_digits factors) i line₀ work₀) all,
              ),
            )
