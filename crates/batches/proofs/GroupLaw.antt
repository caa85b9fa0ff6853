-- The sweep law for a group of neighbouring lines: all at once they become what they become one after the other.
use mathlib.Core.Path.{◌≡◌, refl, sym, ◌∙◌, ap, subst}
use mathlib.Core.Logic.{◌≢◌, ◌⊎◌, inl, inr, ⊎_elim}
use mathlib.Core.List.{List}
use Prim.Native.Nat.{ℕ, suc, ◌+◌, ◌*◌, ◌-◌, ◌/◌, ◌%◌, ◌<◌, ◌≤◌}
use native.Mathlib.Nat.{mul-le-mul_left}
use native.Mathlib.Omega.{arith}
use lib.ListN.{length}
use Rattle.algebra.specs.ring.Ring.{pow, dft}
use Rattle.algebra.proofs.ring.Laws.{along}
use Rattle.numbers.specs.declared.Pair.{Pair}
use Rattle.numbers.specs.Value.{prime, IsModulus, Value, Residue, field, real, value_of, pair_of}
use Rattle.numbers.proofs.Primes.{prime_most}
use Rattle.numbers.proofs.Values.{pair_value}
use Rattle.slices.specs.Pairs.{at, values_of, tab}
use Rattle.slices.specs.Sweep.{Layout, sweep, Disjoint, on_lists}
use Rattle.slices.proofs.Pairs.{lt_or_ge, ext_pairs, at_tab, tab_cong}
use Rattle.slices.proofs.Values.{values_list}
use Rattle.slices.proofs.Rows.{row_inj, row_split, row_end, rows_wide}
use Rattle.slices.proofs.Sweep.{length_sweep, at_sweep_other, at_sweep, local_lists}
use Rattle.batches.specs.Reduction.{Holds}
use Rattle.batches.specs.Lanes.{lane_at, line_in, UpTo}
use Rattle.batches.specs.Transforms.{TransformedLanes}
use Rattle.batches.specs.Groups.{Gathered, Scattered, LinesBelow, neighbours, scaled_transform, turned_lines}
use Rattle.batches.proofs.DrivingLanes.{up_as}
use Rattle.batches.proofs.VolumeLanes.{gathered_line}

-- the pair k is on one of the lines
record Place (start stride n lanes k : ℕ) : Type 0 where
  line : ℕ
  step : ℕ
  line_low : line < lanes
  step_low : step < n
  is : start + line + step * stride ≡ k

module _ (start n : ℕ) {stride lanes : ℕ} (wide : lanes ≤ stride) where
  same_place : {v u i j : ℕ} → v < lanes → u < lanes → start + v + i * stride ≡ start + u + j * stride → (v ≡ u) × (i ≡ j)
  same_place {v} {u} {i} {j} lv lu e = let w = row_inj i j (wider lv) (wider lu) (omega (arith, e)) in (w.1, w.0)
    where
      wider : {x : ℕ} → x < lanes → x < stride
      wider l = omega arith

  -- it is, or it is on none
  placed : (k : ℕ) → 0 < lanes → Place start stride n lanes k ⊎ ((v j : ℕ) → v < lanes → j < n → start + v + j * stride ≢ k)
  placed k some = ⊎_elim
      (λ (lt : k < start). inr (λ v j lv lj e. omega arith))
      (λ (ge : start ≤ k). found ge (row_split (suc (k - start)) {m = stride} {p = k - start} (omega (arith, rows_wide (suc (k - start)) {m = stride} (omega arith)))))
      (lt_or_ge k start)
    where
      found : start ≤ k → ((k - start) / stride < suc (k - start)) × ((k - start) % stride < stride) × ((k - start) / stride * stride + (k - start) % stride ≡ k - start)
          → Place start stride n lanes k ⊎ ((v j : ℕ) → v < lanes → j < n → start + v + j * stride ≢ k)
      found ge w = ⊎_elim
          (λ (lv : (k - start) % stride < lanes). ⊎_elim
          (λ (lj : (k - start) / stride < n). inl (record { line = (k - start) % stride; step = (k - start) / stride; line_low = lv; step_low = lj; is = omega (arith, w.2) }))
          (λ (far : n ≤ (k - start) / stride). inr (λ v j lu lj e. omega (arith, (only v j lu e).0)))
          (lt_or_ge ((k - start) / stride) n))
          (λ (far : lanes ≤ (k - start) % stride). inr (λ v j lu lj e. omega (arith, (only v j lu e).1)))
          (lt_or_ge ((k - start) % stride) lanes)
        where
          only : (v j : ℕ) → v < lanes → start + v + j * stride ≡ k → (j ≡ (k - start) / stride) × (v ≡ (k - start) % stride)
          only v j lu e = row_inj j ((k - start) / stride) (omega arith) w.1 (omega (arith, e, w.2))

  apart_lines : {len : ℕ} → 2 * (start + n * stride + lanes) ≤ len + 2 * stride → Disjoint (neighbours start stride n lanes) len
  apart_lines fits = record {
    inside = λ v j lv lj. omega (arith, row_end stride lj);
    apart = λ v u i j lv lu li lj e. same_place lv lu e;
  }

  -- THE law
  pub group_law : (F : List ℕ → List ℕ) (before after : List ℕ) → 2 * (start + n * stride + lanes) ≤ length before + 2 * stride → length after ≡ length before
      → ((v j : ℕ) → v < lanes → j < n → at after (start + v + j * stride) ≡ at (F (tab n (λ i. at before (start + v + i * stride)))) j)
      → ((k : ℕ) → ((v j : ℕ) → v < lanes → j < n → start + v + j * stride ≢ k) → at after k ≡ at before k)
      → after ≡ sweep (neighbours start stride n lanes) (on_lists (neighbours start stride n lanes) (λ v. F)) lanes before
  group_law F before after fits long new kept =
      ext_pairs after (sweep L g lanes before) (long ∙ sym (length_sweep L g lanes before)) (λ k. ⊎_elim
      (λ (some : 0 < lanes). ⊎_elim (on k) (off k) (placed k some))
      (λ (none : lanes ≤ 0). off k (λ v j lv. absurd (omega (arith, none, lv))))
      (lt_or_ge 0 lanes))
    where
      L : Layout
      L = neighbours start stride n lanes

      g : ℕ → (ℕ → Pair) → ℕ → Pair
      g = on_lists L (λ v. F)

      on : (k : ℕ) → Place start stride n lanes k → at after k ≡ at (sweep L g lanes before) k
      on k p = subst (λ k. at after k ≡ at (sweep L g lanes before) k) p.is
          (new p.line p.step p.line_low p.step_low
          ∙ sym (at_sweep L g (apart_lines fits) (local_lists L (λ v. F)) lanes p.line p.step before refl p.line_low (omega arith) p.step_low))

      off : (k : ℕ) → ((v j : ℕ) → v < lanes → j < n → start + v + j * stride ≢ k) → at after k ≡ at (sweep L g lanes before) k
      off k away = kept k away ∙ sym (at_sweep_other L g lanes k before away)

-- ---- what is gathered, transformed and scattered

module _ {m : ℕ} {W : Value m} {c factors start stride lanes n : ℕ} (volume : List ℕ) {after line line' : List ℕ} (few : lanes ≤ 16) (wide : lanes ≤ stride)
    (fits : 2 * (start + n * stride + lanes) ≤ length volume + 2 * stride) (below : LinesBelow m start stride n lanes volume)
    (came : Gathered volume start stride lanes n line) (h : TransformedLanes m W factors n line line') (left : Scattered m c line' start stride lanes n volume after) where
  -- the line of a lane is the line of the volume, pair by pair
  line_came : (v : ℕ) → v < lanes → line_in m n v line ≡ tab n (λ i. at volume (start + v + i * stride))
  line_came v lv = gathered_line came m few lv ∙ tab_cong n _ _ (λ j lj. ap (λ k. pair_of (values_of m volume k)) (place j) ∙ pair_value m (below.each v j lv lj))
    where
      place : (j : ℕ) → start + j * stride + v ≡ start + v + j * stride
      place j = omega arith

  value_left : (v j : ℕ) → v < lanes → j < n → value_of m (lane_at line' j v) ≡ dft (field m) n (pow (field m) W (2880 / n)) (values_of m (tab n (λ i. at volume (start + v + i * stride)))) j
  value_left v j lv lj =
      sym (values_list m n (λ j. value_of m (lane_at line' j v)) j lj)
      ∙ ap (λ l. values_of m l j) (h.is v (omega arith))
      ∙ values_list m n (dft (field m) n (pow (field m) W (2880 / n)) (values_of m (line_in m n v line))) j lj
      ∙ ap (λ l. dft (field m) n (pow (field m) W (2880 / n)) (values_of m l) j) (line_came v lv)

  pub group_turned_lem : (z : Residue m) → Holds m c z → after ≡ turned_lines m W z start stride n lanes volume
  group_turned_lem z e = group_law start n wide (scaled_transform m W z n) volume after fits left.long
      (λ v j lv lj.
      along (at after) (start + v + j * stride) (start + j * stride + v) (omega arith)
      ∙ left.new z e j v lj lv
      ∙ ap (λ y. pair_of ((field m).mul (real m z) y)) (value_left v j lv lj)
      ∙ sym (at_tab _ n j lj))
      (λ k away. left.kept k (λ j v lj lv q. away v j lv lj (omega (arith, q))))

-- the numbers of a transform can be reduced
pub transformed_low : {m : ℕ} {W : Value m} {factors n : ℕ} {line line' : List ℕ} → IsModulus m → TransformedLanes m W factors n line line' → UpTo (8 * prime m) line → UpTo 2147483647 line'
transformed_low {m} {factors = factors} is h low = up_as (h.low (8 * prime m) low) (most _ h.few)
  where
    most : (k : ℕ) → k ≤ 11 → 8 * prime m + 32 * prime m * k ≤ 2147483647
    most k l = omega (arith, row_most k l, prime_most is)
      where
        row_most : (k : ℕ) → k ≤ 11 → 32 * prime m * k ≤ 32 * prime m * 11
        row_most k l = mul-le-mul_left (32 * prime m) l
