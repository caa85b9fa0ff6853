-- The passes over a batch and the transform between them make up the synthesis of an alternating line in each lane, as folds' `AlternatingLine` has it for one line.
use mathlib.Core.Path.{◌≡◌, refl, sym, ◌∙◌, ap, subst}
use mathlib.Core.Bool.{Bool}
use mathlib.Core.Logic.{⊎_elim}
use mathlib.Core.List.{List}
use Prim.Native.Nat.{ℕ, ◌+◌, ◌*◌, ◌-◌, ◌<◌, ◌≤◌}
use native.Mathlib.Nat.{mul-le-mul, mul-le-mul_left}
use native.Mathlib.Omega.{arith}
use lib.ListN.{get_or, length}
use Rattle.algebra.specs.lines.Kinds.{slots, Kind.alternating}
use Rattle.algebra.specs.lines.Folds.{finish3}
use Rattle.numbers.specs.declared.Pair.{Pair}
use Rattle.numbers.specs.Value.{prime, IsModulus, Value, real, part, value_of, on_values}
use Rattle.numbers.specs.Bounds.{res, Small}
use Rattle.numbers.proofs.Primes.{prime_most}
use Rattle.numbers.proofs.Values.{pair_value, small_by}
use Rattle.roots.specs.Table.{table_root}
use Rattle.slices.specs.Pairs.{values_of, list_of}
use Rattle.slices.proofs.Pairs.{lt_or_ge}
use Rattle.slices.proofs.Values.{values_list, list_cong}
use Rattle.fold_formulas.specs.FoldFormulas.{tangent, folded, Frame}
use Rattle.folds.proofs.AlternatingLine.{forward_by}
use Rattle.cell.specs.Volume.{over_i}
use Rattle.batches.specs.Lanes.{lane_at, line_in, UpTo, Good}
use Rattle.batches.specs.Transforms.{TransformedLanes}
use Rattle.batches.proofs.DrivingLanes.{up_as}
use Rattle.batches.proofs.LaneLists.{lane_low}
use Rattle.batches.proofs.PassingLanes.{up_of}
use Rattle.folded_batches.specs.AlternatingLanes.{Filled, LaneIs, Unpacked, OddSums, low_pair, high_pair, short_pair, FinishedLanes, Packed, SynthesisLanes}
use Rattle.folded_batches.proofs.AlternatingBlocks.{short_low, short_high}
use Rattle.folded_batches.proofs.AlternatingBefore.{short_value, odd_value}

-- ---- the numbers

-- a lane that holds residues holds the pairs of their values
pub lane_packed : {m A : ℕ} {line : List ℕ} → Packed m A line → (v : ℕ) → v < 16 → LaneIs m A line v (λ j. value_of m (lane_at line j v))
lane_packed {m} h v lv = record { each = λ j lj. sym (pair_value m (h.each v j lv lj)) }

pub unpacked_low : {m A : ℕ} {line line' : List ℕ} → Packed m A line → Unpacked A line line' → length line ≡ 32 * (A + 1) → UpTo (prime m) line'
unpacked_low {m} {A} {line} {line'} h u long = up_of (u.long ∙ long) (λ v j lv lj. let s = small v j lv lj in (omega (arith, s.re), omega (arith, s.im)))
  where
    small : (v j : ℕ) → v < 16 → j < A + 1 → Small (prime m) (lane_at line' j v)
    small v j lv lj = small_by m _ ((u.is m v lv (λ j. value_of m (lane_at line j v)) (lane_packed h v lv)).each j lj)

module _ (m A : ℕ) {line fold : List ℕ} where
  pub short_up : UpTo (prime m) line → Filled (λ t v x. x ≡ short_pair (prime m) A line t v) A fold → length fold ≡ 32 * A → UpTo (8 * prime m) fold
  short_up up h long = up_of long (λ v t lv lt. subst Low (sym (h.each t v lt lv)) (low t v))
    where
      Low : Pair → Type 0
      Low x = (x.re ≤ 8 * prime m) × (x.im ≤ 8 * prime m)

      low : (t v : ℕ) → Low (short_pair (prime m) A line t v)
      low t v = ⊎_elim
          (λ (l : A < 2 * t + 1). subst Low (short_high (prime m) A line t v l) (high_most (lane_at line (2 * (A - t)) v) (lane_at line (2 * (A - t) - 1) v) (lane_low up (2 * (A - t)) v).0))
          (λ (l : 2 * t + 1 ≤ A). subst Low (short_low (prime m) A line t v l) (low_most (lane_at line (2 * t) v) (lane_at line (2 * t + 1) v) (lane_low up (2 * t) v) (lane_low up (2 * t + 1) v)))
          (lt_or_ge A (2 * t + 1))
        where
          low_most : (x y : Pair) → (x.re ≤ prime m) × (x.im ≤ prime m) → (y.re ≤ prime m) × (y.im ≤ prime m) → Low (low_pair (prime m) x y)
          low_most x y hx hy = (omega (arith, hx.0), omega (arith, hx.1, hy.0))

          high_most : (x y : Pair) → x.re ≤ prime m → Low (high_pair (prime m) x y)
          high_most x y hx = (omega (arith, hx), omega arith)

pub transformed_most : {m : ℕ} {W : Value m} {factors n : ℕ} {line line' : List ℕ} → IsModulus m → TransformedLanes m W factors n line line' → UpTo (8 * prime m) line → UpTo 500000000 line'
transformed_most {m} {factors = factors} is h low = up_as (h.low (8 * prime m) low) (most _ h.few)
  where
    most : (k : ℕ) → k ≤ 11 → 8 * prime m + 32 * prime m * k ≤ 500000000
    most k l = omega (arith, mul-le-mul_left (32 * prime m) l, prime_most is)

pub odd_most : {m A : ℕ} {line y : List ℕ} → IsModulus m → OddSums m A line A y → A ≤ 359 → (v : ℕ) → v < 16 → get_or y v 0 ≤ 500000000
odd_most is h l v lv = omega (arith, h.low v lv, mul-le-mul l (prime_most is))

-- ---- a lane from its packed line to its synthesis

module _ {m A : ℕ} {re im tan : List ℕ} (f : Frame m A re im) {b : Bool} {factors : ℕ} {line line₁ odd fold₁ fold₂ fold₃ : List ℕ}
    (u : Unpacked A line line₁) (o : OddSums m A line₁ A odd) (h : Filled (λ t v x. x ≡ short_pair (prime m) A line₁ t v) A fold₁)
    (t : TransformedLanes m (table_root m re im) factors A fold₁ fold₂) (d : FinishedLanes m b A tan odd fold₂ fold₃) where
  module _ (v : ℕ) (lv : v < 16) (q : ℕ → Value m) (is : LaneIs m A line v q) where
    -- the number of the odd places, and the transform of the short line
    abbrev o_value : Value m
    o_value = real m (res m (get_or odd v 0))

    abbrev y : ℕ → Value m
    y = values_of m (line_in m A v fold₂)

    lane_whole : list_of A (on_values m finish3 A (tangent m A tan) y o_value) ≡ list_of (slots alternating A) (folded m 0 A re im tan alternating q)
    lane_whole =
        forward_by m A f (tangent m A tan) q o_value (real m (part m (2 * A))) {d = line_in m A v fold₁} {e = line_in m A v fold₂}
        (odd_value m A q (u.is m v lv q is) lv o)
        (list_cong m A _ _ (λ t lt. ap (value_of m) (h.each t v lt lv) ∙ short_value m A q (u.is m v lv q is) t lt))
        (t.is v lv)
        refl

    lane_folded : (s : ℕ) → s < A → on_values m finish3 A (tangent m A tan) y o_value s ≡ folded m 0 A re im tan alternating q s
    unfolding slots
    lane_folded s ls = sym (values_list m A (on_values m finish3 A (tangent m A tan) y o_value) s ls) ∙ ap (λ l. values_of m l s) lane_whole ∙ values_list m A (folded m 0 A re im tan alternating q) s ls

  pub synthesis_by : SynthesisLanes m b A re im tan line fold₃
  synthesis_by = record {
    long = d.long ∙ t.long;
    low = up_of (d.long ∙ t.long) (λ v s lv ls. let g = d.is v s lv ls (λ s. value_of m (lane_at fold₂ s v)) refl in (g.re, g.im));
    is = λ v lv q is s ls. subst (λ z. Good m (2 * prime m) (lane_at fold₃ s v) (over_i m b z)) (lane_folded v lv q is s ls)
        (d.is v s lv ls (values_of m (line_in m A v fold₂)) (values_list m A (λ j. value_of m (lane_at fold₂ j v)) s ls));
  }
