-- The passes over a batch and the transform between them make up N times the analysis of an alternating line in each lane, as folds' `AlternatingLine` has it for one line.
use mathlib.Core.Path.{◌≡◌, refl, sym, ◌∙◌, ap, ap₂, subst}
use mathlib.Core.Bool.{Bool}
use mathlib.Core.Logic.{◌≢◌, ⊎_elim}
use mathlib.Core.List.{List, [], ◌∷◌}
use Prim.Native.Nat.{ℕ, zero, suc, ◌+◌, ◌*◌, ◌/◌, ◌%◌, ◌<◌, ◌≤◌}
use native.Mathlib.Nat.{mul-le-mul_left}
use native.Mathlib.Omega.{arith}
use lib.ListN.{get_or, length}
use Rattle.algebra.specs.ring.Ring.{gauss}
use Rattle.algebra.specs.ring.Ring as Gauss
use Rattle.algebra.specs.lines.Kinds.{slots, pack_by, Kind.alternating}
use Rattle.algebra.specs.lines.Packings.{pack_b3}
use Rattle.algebra.specs.lines.Folds.{mate, line3}
use Rattle.algebra.proofs.ring.Solver.{ring, quote}
use Rattle.numbers.specs.declared.Pair.{Pair}
use Rattle.numbers.specs.Value.{prime, IsModulus, Value, Residue, field, conj, i, real, part, value_of, pair_of, on_values}
use Rattle.numbers.specs.Value as Value
use Rattle.numbers.specs.Bounds.{res}
use Rattle.numbers.proofs.Primes.{prime_most}
use Rattle.numbers.proofs.Residues.{res_ring, res_val}
use Rattle.numbers.proofs.Values.{value_path, field_ring, i_times, value_by, value_pair}
use Rattle.roots.specs.Table.{table_root}
use Rattle.slices.specs.Pairs.{values_of, list_of}
use Rattle.slices.proofs.Pairs.{eq_or_ne}
use Rattle.slices.proofs.Values.{values_list, list_cong}
use Rattle.fold_formulas.specs.FoldFormulas.{tangent, folded, Frame}
use Rattle.folds.proofs.AlternatingLine.{back_by}
use Rattle.folds.proofs.alternating.after.Back.{mate_rest, mate_even, mate_odd, line_even, line_odd, pack_even, pack_odd}
use Rattle.cell.specs.Volume.{times_i}
use Rattle.batches.specs.Lanes.{lane_at, line_in, UpTo}
use Rattle.batches.specs.Transforms.{TransformedLanes}
use Rattle.batches.proofs.DrivingLanes.{up_as}
use Rattle.batches.proofs.LaneLists.{lane_low}
use Rattle.batches.proofs.PassingLanes.{up_of}
use Rattle.folded_batches.specs.AlternatingLanes.{Filled, LaneIs, Angled, twice_pair, FirstTaken, even_pair, odd_pair, whole_pair, end_place, EndPacked, AnalysisLanes}
use Rattle.folded_batches.proofs.AlternatingBlocks.{first_re}
use Rattle.folded_batches.proofs.AlternatingTurning.{zero_res}
use Rattle.folded_batches.proofs.AlternatingBack.{whole_even, whole_odd, end_even, end_odd, multiple, even_value, odd_value, spectrum_value, twice_value}

-- ---- the numbers

pub angled_up : (m A : ℕ) (b : Bool) (tan before : List ℕ) {fold : List ℕ} → Filled (Angled m 1 b A tan before) A fold → length fold ≡ 32 * A → UpTo (2 * prime m) fold
angled_up m A b tan before h long = up_of long (λ v s lv ls. ((h.each s v ls lv).re, (h.each s v ls lv).im))

pub taken_up : (m A : ℕ) {fold fold' twice : List ℕ} → length fold ≡ 32 * A → UpTo (2 * prime m) fold → FirstTaken m fold fold' twice → UpTo (8 * prime m) fold'
taken_up m A {fold} {fold'} long up h = up_of (h.long ∙ long) (λ v j lv lj. ⊎_elim
    (λ (e : j ≡ 0). subst (λ k. ((lane_at fold' k v).re ≤ 8 * prime m) × ((lane_at fold' k v).im ≤ 8 * prime m)) (sym e)
    (subst (λ (x : Pair). (x.re ≤ 8 * prime m) × (x.im ≤ 8 * prime m)) (sym (h.new v lv)) (omega (arith, (lane_low up 0 v).0), omega arith)))
    (λ (other : j ≢ 0). subst (λ (x : Pair). (x.re ≤ 8 * prime m) × (x.im ≤ 8 * prime m)) (sym (h.kept j v lv other)) (omega (arith, (lane_low up j v).0), omega (arith, (lane_low up j v).1)))
    (eq_or_ne j 0))

pub twice_most : (m : ℕ) {fold fold' twice : List ℕ} → IsModulus m → UpTo (2 * prime m) fold → FirstTaken m fold fold' twice → (v : ℕ) → v < 16 → get_or twice v 0 ≤ 500000000
unfolding twice_pair
twice_most m {fold} {twice = twice} is up h v lv = omega (arith, first_re twice v, ap (λ (x : Pair). x.re) (h.kept_twice.each v lv), (lane_low up 0 v).0, prime_most is)

pub transformed_up : {m : ℕ} {W : Value m} {factors n : ℕ} {line line' : List ℕ} → TransformedLanes m W factors n line line' → UpTo (8 * prime m) line → UpTo (512 * prime m) line'
transformed_up {m} h low = up_as (h.low (8 * prime m) low) (most _ h.few)
  where
    most : (k : ℕ) → k ≤ 11 → 8 * prime m + 32 * prime m * k ≤ 512 * prime m
    most k l = omega (arith, mul-le-mul_left (32 * prime m) l)

pub whole_up : (m A : ℕ) (twice fold : List ℕ) {line : List ℕ} → IsModulus m → UpTo (512 * prime m) fold → ((v : ℕ) → v < 16 → get_or twice v 0 ≤ 500000000)
    → Filled (λ j v x. x ≡ whole_pair (512 * prime m) A twice fold j v) (A + 1) line → length line ≡ 32 * (A + 1) → UpTo 2147483647 line
whole_up m A twice fold is up few h long = up_of long (λ v j lv lj. subst Low (sym (h.each j v lj lv)) (low j v lv))
  where
    Low : Pair → Type 0
    Low x = (x.re ≤ 2147483647) × (x.im ≤ 2147483647)

    low : (j v : ℕ) → v < 16 → Low (whole_pair (512 * prime m) A twice fold j v)
    low j v lv = ⊎_elim
        (λ (e : j % 2 ≡ 0). subst Low (whole_even (512 * prime m) A twice fold j v refl e) (even_most (lane_at fold (j / 2) v) (lane_at fold (mate A ((j + 1) / 2)) v) (lane_low up (j / 2) v) (lane_low up (mate A ((j + 1) / 2)) v)))
        (λ (e : j % 2 ≢ 0). subst Low (whole_odd (512 * prime m) A twice fold j v refl e) (odd_most (get_or twice v 0) (lane_at fold (j / 2) v) (lane_at fold (mate A ((j + 1) / 2)) v) (few v lv) (lane_low up (j / 2) v)))
        (eq_or_ne (j % 2) 0)
      where
        even_most : (x y : Pair) → (x.re ≤ 512 * prime m) × (x.im ≤ 512 * prime m) → (y.re ≤ 512 * prime m) × (y.im ≤ 512 * prime m) → Low (even_pair (512 * prime m) x y)
        even_most x y hx hy = (omega (arith, hx.0, hy.0, prime_most is), omega (arith, hx.1, prime_most is))

        odd_most : (t : ℕ) (x y : Pair) → t ≤ 500000000 → (x.re ≤ 512 * prime m) × (x.im ≤ 512 * prime m) → Low (odd_pair (512 * prime m) t x y)
        odd_most t x y lt hx = (omega (arith, hx.1, prime_most is), omega (arith, lt, prime_most is))

packed_up : (A : ℕ) {line line' : List ℕ} → UpTo 2147483647 line → length line ≡ 32 * (A + 1) → EndPacked A line line' → UpTo 2147483647 line'
packed_up A {line} {line'} up long h = up_of (h.long ∙ long) (λ v j lv lj. ⊎_elim
    (λ (e : j ≡ 0). subst (λ k. ((lane_at line' k v).re ≤ 2147483647) × ((lane_at line' k v).im ≤ 2147483647)) (sym e)
    (subst (λ (x : Pair). (x.re ≤ 2147483647) × (x.im ≤ 2147483647)) (sym (h.new v lv)) ((lane_low up 0 v).0, up.each (end_place A + v))))
    (λ (other : j ≢ 0). subst (λ (x : Pair). (x.re ≤ 2147483647) × (x.im ≤ 2147483647)) (sym (h.kept j v lv other)) (lane_low up j v))
    (eq_or_ne j 0))

-- ---- the packed line from the short transform

module _ (m : ℕ) where
  open Value.ring m use {add as ◌⊞◌, neg as ⊟◌, zer as 𝟎}

  infixl 65 ◌⊞◌
  infix 75 ⊟◌
  -- two real values, and a real value and an imaginary one, in a pair
  two_reals : (x y : Value m) → x.1 ≡ 𝟎 → y.1 ≡ 𝟎 → (x.0, y.0) ≡ (field m).add x ((field m).mul (i m) y)
  unfolding gauss
  two_reals x y ex ey =
      value_path
      (ring (res_ring m) (x.0 ∷ []) (search quote depth 40 fits 9999) refl ∙ ap (λ z. x.0 ⊞ ⊟ z) (sym ey))
      (ring (res_ring m) (y.0 ∷ []) (search quote depth 40 fits 9999) refl ∙ ap (λ z. z ⊞ y.0) (sym ex))
      ∙ ap ((field m).add x) (sym (i_times m y))

  real_imaginary : (x y : Value m) → x.1 ≡ 𝟎 → y.0 ≡ 𝟎 → (x.0, y.1) ≡ (field m).add x y
  unfolding gauss
  real_imaginary x y ex ey = value_path
      (ring (res_ring m) (x.0 ∷ []) (search quote depth 40 fits 9999) refl ∙ ap (λ z. x.0 ⊞ z) (sym ey))
      (ring (res_ring m) (y.1 ∷ []) (search quote depth 40 fits 9999) refl ∙ ap (λ z. z ⊞ y.1) (sym ex))

  -- a value and its conjugate
  real_sum : (z : Value m) → ((field m).add z (conj m z)).1 ≡ 𝟎
  unfolding gauss Gauss.conj
  real_sum z = ring (res_ring m) (z.1 ∷ []) (search quote depth 40 fits 9999) refl

  imaginary_turn : (t : Residue m) (z : Value m) → ((field m).mul (i m) ((field m).add (real m t) ((field m).neg ((field m).add z (conj m z))))).0 ≡ 𝟎
  unfolding gauss Gauss.conj
  imaginary_turn t z = ap (λ (x : Value m). x.0) (i_times m ((field m).add (real m t) ((field m).neg ((field m).add z (conj m z))))) ∙ ap (λ x. ⊟ (x ⊞ ⊟ (z.1 ⊞ ⊟ z.1))) (zero_res m) ∙ ring (res_ring m) (z.1 ∷ []) (search quote depth 40 fits 9999) refl

  scaled_two : (P x y : Value m) → (field m).mul P ((field m).add x ((field m).mul (i m) y)) ≡ (field m).add ((field m).mul P x) ((field m).mul (i m) ((field m).mul P y))
  scaled_two P x y = turn P (i m) x y
    where
      turn : (P j x y : Value m) → (field m).mul P ((field m).add x ((field m).mul j y)) ≡ (field m).add ((field m).mul P x) ((field m).mul j ((field m).mul P y))
      turn P j x y = ring (field_ring m) (P ∷ j ∷ x ∷ y ∷ []) (search quote depth 40 fits 9999) refl

  module _ (A : ℕ) (X : ℕ → Value m) where
    pack_two : A % 2 ≡ 0 → (field m).add (X 0) ((field m).mul (i m) (X A)) ≡ on_values m pack_b3 A X 0
    pack_two h =
        sym (value_pair m _ ∙ ap₂ (field m).add (value_pair m _) (value_pair m _ ∙ ap ((field m).mul (i m)) (value_pair m _)))
        ∙ value_by m _ (pack_even m A X 0 {x = pair_of (X 0)} {y = pair_of (X A)} {u = pair_of ((field m).mul (i m) (value_of m (pair_of (X A))))} refl h refl refl refl refl)

    pack_one : (A % 2 ≡ 0 → ⊥) → (field m).add (X 0) (X A) ≡ on_values m pack_b3 A X 0
    pack_one h =
        sym (value_pair m _ ∙ ap₂ (field m).add (value_pair m _) (value_pair m _))
        ∙ value_by m _ (pack_odd m A X 0 {x = pair_of (X 0)} {y = pair_of (X A)} refl h refl refl refl)

  module _ (A v : ℕ) (twice fold : List ℕ) {line line' : List ℕ} (pos : 0 < A) (lv : v < 16) (up : UpTo (512 * prime m) fold)
      (whole : Filled (λ j v x. x ≡ whole_pair (512 * prime m) A twice fold j v) (A + 1) line) (packed : EndPacked A line line') where
    abbrev at_place : ℕ → Value m
    at_place t = value_of m (lane_at fold t v)

    even_place : (j : ℕ) → j ≤ A → j % 2 ≡ 0 → value_of m (lane_at line j v) ≡ (field m).add (at_place (j / 2)) (conj m (at_place (mate A ((j + 1) / 2))))
    even_place j l e =
        ap (value_of m) (whole.each j v (omega arith) lv ∙ sym (whole_even (512 * prime m) A twice fold j v refl e))
        ∙ even_value m (multiple m 512) (lane_at fold (j / 2) v) (lane_at fold (mate A ((j + 1) / 2)) v) (lane_low up (mate A ((j + 1) / 2)) v).1

    odd_place : (j : ℕ) → j ≤ A → (j % 2 ≡ 0 → ⊥)
        → value_of m (lane_at line j v) ≡ (field m).mul (i m) ((field m).add (real m (res m (get_or twice v 0))) ((field m).neg ((field m).add (at_place (j / 2)) (conj m (at_place (mate A ((j + 1) / 2)))))))
    odd_place j l e =
        ap (value_of m) (whole.each j v (omega arith) lv ∙ sym (whole_odd (512 * prime m) A twice fold j v refl e))
        ∙ odd_value m (multiple m 512) (get_or twice v 0) (lane_at fold (j / 2) v) (lane_at fold (mate A ((j + 1) / 2)) v) (lane_low up (j / 2) v).0 (lane_low up (mate A ((j + 1) / 2)) v).0 (lane_low up (mate A ((j + 1) / 2)) v).1

    -- the middle of the short transform is its own mate
    middle_mate : mate A ((A + 1) / 2) ≡ A / 2
    middle_mate = sym (mate_rest A ((A + 1) / 2) (λ e. omega arith)) ∙ omega arith

    first_real : (value_of m (lane_at line 0 v)).1 ≡ 𝟎
    unfolding mate
    first_real = ap (λ (z : Value m). z.1) (even_place 0 (omega arith) refl) ∙ real_sum (at_place 0)

    middle_even : A % 2 ≡ 0 → (value_of m (lane_at line A v)).1 ≡ 𝟎
    middle_even e = ap (λ (z : Value m). z.1) (even_place A (omega arith) e ∙ ap (λ k. (field m).add (at_place (A / 2)) (conj m (at_place k))) middle_mate) ∙ real_sum (at_place (A / 2))

    middle_odd : (A % 2 ≡ 0 → ⊥) → (value_of m (lane_at line A v)).0 ≡ 𝟎
    middle_odd e =
        ap (λ (z : Value m). z.0) (odd_place A (omega arith) e ∙ ap (λ k. (field m).mul (i m) ((field m).add (real m (res m (get_or twice v 0))) ((field m).neg ((field m).add (at_place (A / 2)) (conj m (at_place k)))))) middle_mate)
        ∙ imaginary_turn (res m (get_or twice v 0)) (at_place (A / 2))

    module _ (P : Value m) (y : ℕ → Value m) (short : (t : ℕ) → t < A → at_place t ≡ y t) where
      abbrev X : ℕ → Value m
      X = on_values m line3 A P y (real m (res m (get_or twice v 0)))

      mate_low : (j : ℕ) → j ≤ A → mate A ((j + 1) / 2) < A
      unfolding mate
      mate_low j l = low ((j + 1) / 2)
        where
          low : (t : ℕ) → mate A t < A
          low zero = pos
          low (suc t) = omega (arith, pos)

      whole_value : (j : ℕ) → j ≤ A → (field m).mul P (value_of m (lane_at line j v)) ≡ X j
      whole_value j l = ⊎_elim even odd (eq_or_ne (j % 2) 0)
        where
          half_low : j / 2 < A
          half_low = omega arith

          even : j % 2 ≡ 0 → (field m).mul P (value_of m (lane_at line j v)) ≡ X j
          even e =
              ap ((field m).mul P) (even_place j l e ∙ ap₂ (λ a b. (field m).add a (conj m b)) (short (j / 2) half_low) (short (mate A ((j + 1) / 2)) (mate_low j l) ∙ ap y (mate_even A j e)))
              ∙ line_even m A P y (real m (res m (get_or twice v 0))) j e

          odd : j % 2 ≢ 0 → (field m).mul P (value_of m (lane_at line j v)) ≡ X j
          odd e =
              ap ((field m).mul P) (odd_place j l e
              ∙ ap₂ (λ a b. (field m).mul (i m) ((field m).add (real m (res m (get_or twice v 0))) ((field m).neg ((field m).add a (conj m b))))) (short (j / 2) half_low) (short (mate A ((j + 1) / 2)) (mate_low j l) ∙ ap y (mate_odd A j e)))
              ∙ line_odd m A P y (real m (res m (get_or twice v 0))) j e

      -- pair 0: X(0) and the one part of X(A)
      first_value : (field m).mul P (value_of m (lane_at line' 0 v)) ≡ on_values m pack_b3 A X 0
      unfolding value_of lane_at
      first_value = ⊎_elim even odd (eq_or_ne (A % 2) 0)
        where
          even : A % 2 ≡ 0 → (field m).mul P (value_of m (lane_at line' 0 v)) ≡ on_values m pack_b3 A X 0
          even e =
              ap (λ x. (field m).mul P (value_of m x)) (packed.new v lv)
              ∙ ap (λ k. (field m).mul P (res m (lane_at line 0 v).re, res m (get_or line (k + v) 0))) (sym (end_even A e))
              ∙ ap ((field m).mul P) (two_reals (value_of m (lane_at line 0 v)) (value_of m (lane_at line A v)) first_real (middle_even e))
              ∙ scaled_two P _ _
              ∙ ap₂ (λ a b. (field m).add a ((field m).mul (i m) b)) (whole_value 0 (omega arith)) (whole_value A (omega arith))
              ∙ pack_two A X e

          odd : A % 2 ≢ 0 → (field m).mul P (value_of m (lane_at line' 0 v)) ≡ on_values m pack_b3 A X 0
          odd e =
              ap (λ x. (field m).mul P (value_of m x)) (packed.new v lv)
              ∙ ap (λ k. (field m).mul P (res m (lane_at line 0 v).re, res m (get_or line (k + v) 0))) (sym (end_odd A e))
              ∙ ap (λ k. (field m).mul P (res m (lane_at line 0 v).re, res m (get_or line k 0))) (omega arith)
              ∙ ap ((field m).mul P) (real_imaginary (value_of m (lane_at line 0 v)) (value_of m (lane_at line A v)) first_real (middle_odd e))
              ∙ (field_ring m).left_distrib P _ _
              ∙ ap₂ (field m).add (whole_value 0 (omega arith)) (whole_value A (omega arith))
              ∙ pack_one A X e

      pub packed_value : (t : ℕ) → t < A → (field m).mul P (value_of m (lane_at line' t v)) ≡ on_values m pack_b3 A (on_values m line3 A P y (real m (res m (get_or twice v 0)))) t
      unfolding pack_by
      packed_value zero l = first_value
      packed_value (suc t) l = ap (λ x. (field m).mul P (value_of m x)) (packed.kept (suc t) v lv (λ e. omega arith)) ∙ whole_value (suc t) (omega arith)

-- ---- a lane from its packed line to N times its analysis

module _ {m A : ℕ} {re im : List ℕ} (tan : List ℕ) (f : Frame m A re im) (b : Bool) {factors : ℕ} (fold : List ℕ) {fold₁ fold₂ fold₃ twice line line' : List ℕ} (long : length fold₁ ≡ 32 * A)
    (turned : Filled (Angled m 1 b A tan fold) A fold₁) (taken : FirstTaken m fold₁ fold₂ twice) (t : TransformedLanes m (table_root m re im) factors A fold₂ fold₃)
    (whole : Filled (λ j v x. x ≡ whole_pair (512 * prime m) A twice fold₃ j v) (A + 1) line) (line-long : length line ≡ 32 * (A + 1)) (packed : EndPacked A line line') where
  low_one : UpTo (2 * prime m) fold₁
  low_one = angled_up m A b tan fold turned long

  low_three : UpTo (512 * prime m) fold₃
  low_three = transformed_up t (taken_up m A long low_one taken)

  module _ (v : ℕ) (lv : v < 16) (q : ℕ → Value m) (is : LaneIs m A fold v q) where
    abbrev y : ℕ → Value m
    y = values_of m (line_in m A v fold₃)

    -- 1/N, as a number
    abbrev n_part : Value m
    n_part = real m (res m (part m (2 * A)).val)

    abbrev doubled : Value m
    doubled = real m (res m (get_or twice v 0))

    lane_whole : list_of A (on_values m pack_b3 A (on_values m line3 A n_part y doubled)) ≡ list_of (slots alternating A) (folded m 1 A re im tan alternating (λ s. times_i m b (q s)))
    lane_whole =
        back_by m A f (λ s. (field m).neg (tangent m A tan s)) (λ s. times_i m b (q s)) (part m (2 * A)) {twice = doubled} {d = line_in m A v fold₂} {e = line_in m A v fold₃}
        refl
        refl
        (twice_value m A tan b turned taken v lv q is f.positive)
        (list_cong m A _ _ (λ s ls. spectrum_value m A tan b turned taken v lv q is s ls))
        (t.is v lv)

    lane_folded : (t : ℕ) → t < A → (field m).mul (real m (part m (2 * A))) (value_of m (lane_at line' t v)) ≡ folded m 1 A re im tan alternating (λ s. times_i m b (q s)) t
    unfolding slots
    lane_folded t lt =
        ap (λ r. (field m).mul (real m r) (value_of m (lane_at line' t v))) (sym (res_val m (part m (2 * A))))
        ∙ packed_value m A v twice fold₃ f.positive lv low_three whole packed n_part y (λ s ls. sym (values_list m A (λ j. value_of m (lane_at fold₃ j v)) s ls)) t lt
        ∙ sym (values_list m A (on_values m pack_b3 A (on_values m line3 A n_part y doubled)) t lt)
        ∙ ap (λ l. values_of m l t) lane_whole
        ∙ values_list m A (folded m 1 A re im tan alternating (λ s. times_i m b (q s))) t lt

  pub analysis_by : AnalysisLanes m b A re im tan fold line'
  analysis_by = record {
    long = packed.long ∙ line-long;
    low = packed_up A (whole_up m A twice fold₃ f.modulus low_three (twice_most m f.modulus low_one taken) whole line-long) line-long packed;
    is = lane_folded;
  }
