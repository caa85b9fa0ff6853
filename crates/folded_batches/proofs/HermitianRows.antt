-- Neighbouring rows that are gathered, transformed with the pass over mates, and scattered: what they become one after the other.
use mathlib.Core.Path.{◌≡◌, refl, sym, ◌∙◌, ap, subst}
use mathlib.Core.Bool.{cond}
use mathlib.Core.Logic.{⊎_elim}
use mathlib.Core.List.{List}
use Prim.Native.Nat.{ℕ, zero, suc, ◌+◌, ◌*◌, ◌-◌, ◌/◌, ◌%◌, ◌<◌, ◌≤◌}
use native.Mathlib.Nat.{mul-le-mul_left}
use native.Mathlib.Omega.{arith}
use borrow.Author.Tests.{lt-ltb, le-ltb}
use lib.Dec.{ltb}
use lib.ListN.{get_or, length}
use Rattle.algebra.specs.ring.Ring.{pow, dft}
use Rattle.algebra.specs.lines.Kinds.{Kind.hermitian}
use Rattle.algebra.specs.lines.Folds.{fold1}
use Rattle.algebra.proofs.ring.Laws.{along}
use Rattle.numbers.specs.declared.Pair.{Pair}
use Rattle.numbers.specs.Value.{prime, IsModulus, Value, field, real, on_values, value_of, pair_of}
use Rattle.numbers.specs.Value as Value
use Rattle.numbers.specs.Bounds.{zero_pair, Small}
use Rattle.numbers.proofs.Primes.{prime_most, prime_pos}
use Rattle.numbers.proofs.Values.{pair_path}
use Rattle.slices.specs.Pairs.{at, tab, Below, values_of}
use Rattle.slices.specs.Sweep.{Layout, sweep, on_lists, along_last}
use Rattle.slices.proofs.Pairs.{lt_or_ge, ext_at, at_tab}
use Rattle.slices.proofs.Values.{values_list}
use Rattle.slices.proofs.Rows.{row_split}
use Rattle.slices.proofs.Sweep.{length_sweep, at_sweep, local_lists}
use Rattle.slices.proofs.Layouts.{disjoint_last}
use Rattle.roots.specs.Table.{table_root}
use Rattle.fold_formulas.specs.FoldFormulas.{line_root, folded, Frame}
use Rattle.fold_formulas.proofs.ShortTransform.{short_values}
use Rattle.batches.specs.Reduction.{Holds}
use Rattle.batches.specs.Lanes.{lane_at, line_in, UpTo}
use Rattle.batches.specs.Transforms.{TransformedLanes}
use Rattle.batches.proofs.PassingLanes.{up_of}
use Rattle.batches.proofs.DrivingLanes.{up_as}
use Rattle.cell.specs.Rows.{packed_row, unpacked_row}
use Rattle.folded_batches.specs.Rows.{folded_pair, folded_rows}
use Rattle.folded_batches.specs.RowLanes.{second_of, row_pair, used_pair, GatheredRows, ClosedRows}
use Rattle.folded_batches.specs.HermitianLanes.{share_for, MatedLanes}
use Rattle.folded_batches.proofs.MatedFolds.{mated_cong, one_times, mated_fold, folded_forward, mated_folded}

-- ---- rows of a list, all at once

-- the numbers of row v
abbrev pub row_of : (rows : List ℕ) (b v : ℕ) → List ℕ
row_of rows b v = tab (suc b) (λ t. at rows (v * suc b + t))

pub rows_law : (F : List ℕ → ℕ → Pair) (b lanes : ℕ) (before after : List ℕ) → length before ≡ 2 * ((b + 1) * lanes) → length after ≡ length before
    → ((v t : ℕ) → v < lanes → t < suc b → at after (v * suc b + t) ≡ F (row_of before b v) t)
    → after ≡ sweep (along_last (suc b) lanes) (on_lists (along_last (suc b) lanes) (λ v l. tab (suc b) (F l))) lanes before
rows_law F b lanes before after long same each =
    ext_at (lanes * suc b) after (sweep L g lanes before) (omega (arith, long, same)) (omega (arith, length_sweep L g lanes before, long)) (λ k lk.
    let w = row_split lanes {m = suc b} {p = k} lk in
    subst (λ k. at after k ≡ at (sweep L g lanes before) k) w.2 (there (k / suc b) (k % suc b) w.0 w.1))
  where
    L : Layout
    L = along_last (suc b) lanes

    g : ℕ → (ℕ → Pair) → ℕ → Pair
    g = on_lists L (λ v l. tab (suc b) (F l))

    there : (v t : ℕ) → v < lanes → t < suc b → at after (v * suc b + t) ≡ at (sweep L g lanes before) (v * suc b + t)
    there v t lv lt =
        each v t lv lt
        ∙ sym (at_tab (F (row_of before b v)) (suc b) t lt)
        ∙ sym (at_sweep L g (disjoint_last (suc b) lanes (omega (arith, long))) (local_lists L (λ v l. tab (suc b) (F l))) lanes v t before refl lv (omega arith) lt)

-- ---- the lanes

-- a pair of a row
row_at : (rows : List ℕ) (b v j : ℕ) → row_pair rows (2 * b + 2) (2 * j) (2 * j + 1) v ≡ at rows (v * suc b + j)
unfolding row_pair at
row_at rows b v j = pair_path
    (along (λ k. get_or rows k 0) (v * (2 * b + 2) + 2 * j) (2 * (v * suc b + j)) (omega arith))
    (along (λ k. get_or rows k 0) (v * (2 * b + 2) + (2 * j + 1)) (2 * (v * suc b + j) + 1) (omega arith))

row_of_lem : (rows : List ℕ) (b v j : ℕ) → j < suc b → at rows (v * suc b + j) ≡ at (row_of rows b v) j
row_of_lem rows b v j l = sym (at_tab (λ t. at rows (v * suc b + t)) (suc b) j l)

second_plain : (j : ℕ) → second_of 1 j ≡ 2 * j + 1
unfolding second_of
second_plain zero = refl
second_plain (suc j) = refl

second_later : (second j : ℕ) → 0 < j → second_of second j ≡ 2 * j + 1
unfolding second_of
second_later second zero l = absurd (omega arith)
second_later second (suc j) l = refl

second_zero : (second : ℕ) → second_of second 0 ≡ second
unfolding second_of
second_zero second = refl

used_is : {lanes v : ℕ} (f : ℕ → Pair) → v < lanes → used_pair lanes f v ≡ f v
unfolding used_pair
used_is {lanes} {v} f l = ap (λ b. cond b (f v) zero_pair) (lt-ltb v lanes l)

unused_is : {lanes v : ℕ} (f : ℕ → Pair) → lanes ≤ v → used_pair lanes f v ≡ zero_pair
unfolding used_pair
unused_is {lanes} {v} f l = ap (λ b. cond b (f v) zero_pair) (le-ltb v lanes l)

-- two parts of a row's pair, from two pairs of the row
packed_first : (rows : List ℕ) (b v : ℕ) → row_pair rows (2 * b + 2) (2 * 0) (2 * b) v ≡ packed_row b (at (row_of rows b v)) 0
unfolding packed_row row_pair
packed_first rows b v = pair_path
    (ap (λ (q : Pair). q.re) (row_at rows b v 0 ∙ row_of_lem rows b v 0 (omega arith)))
    (ap (λ (q : Pair). q.re) (row_at rows b v b ∙ row_of_lem rows b v b (omega arith)))

packed_later : (b j : ℕ) (f : ℕ → Pair) → 0 < j → f j ≡ packed_row b f j
unfolding packed_row
packed_later b zero f l = absurd (omega arith)
packed_later b (suc j) f l = refl

module _ {rows : List ℕ} {b lanes : ℕ} {d : List ℕ} (few : lanes ≤ 16) where
  -- synthesis: the packed line of a row
  pub lane_packed : GatheredRows rows (2 * b) b lanes b d → (v : ℕ) → v < lanes → (j : ℕ) → j < b → lane_at d j v ≡ packed_row b (at (row_of rows b v)) j
  lane_packed h v lv j lj = h.each j v lj (omega arith) ∙ used_is (row_pair rows (2 * b + 2) (2 * j) (second_of (2 * b) j)) lv ∙ ⊎_elim
      (λ (l : j < 1). let e : j ≡ 0 = omega arith in
      subst (λ j. row_pair rows (2 * b + 2) (2 * j) (second_of (2 * b) j) v ≡ packed_row b (at (row_of rows b v)) j) (sym e)
      (ap (λ k. row_pair rows (2 * b + 2) (2 * 0) k v) (second_zero (2 * b)) ∙ packed_first rows b v))
      (λ (l : 1 ≤ j). ap (λ k. row_pair rows (2 * b + 2) (2 * j) k v) (second_later (2 * b) j l) ∙ row_at rows b v j ∙ row_of_lem rows b v j (omega arith) ∙ packed_later b j (at (row_of rows b v)) l)
      (lt_or_ge j 1)

  -- analysis: the row
  pub lane_row : GatheredRows rows 1 b lanes b d → (v : ℕ) → v < lanes → (j : ℕ) → j < b → lane_at d j v ≡ at (row_of rows b v) j
  lane_row h v lv j lj =
      h.each j v lj (omega arith)
      ∙ used_is (row_pair rows (2 * b + 2) (2 * j) (second_of 1 j)) lv
      ∙ ap (λ k. row_pair rows (2 * b + 2) (2 * j) k v) (second_plain j)
      ∙ row_at rows b v j
      ∙ row_of_lem rows b v j (omega arith)

-- residues stay residues
pair_small : {p : ℕ} {rows : List ℕ} → Below p rows → (width first second v : ℕ) → Small p (row_pair rows width first second v)
unfolding row_pair
pair_small below width first second v = record { re = below.each (v * width + first); im = below.each (v * width + second) }

pub rows_low : (m : ℕ) {rows : List ℕ} {second b lanes : ℕ} {d : List ℕ} → Below (prime m) rows → GatheredRows rows second b lanes b d → UpTo (prime m) d
rows_low m {rows} {second} {b} {lanes} {d} below h = up_of h.long (λ v j lv lj. let s = small v j lv lj in (omega (arith, s.re), omega (arith, s.im)))
  where
    zero_small : Small (prime m) zero_pair
    zero_small = record { re = prime_pos m; im = prime_pos m }

    small : (v j : ℕ) → v < 16 → j < b → Small (prime m) (lane_at d j v)
    small v j lv lj = subst (Small (prime m)) (sym (h.each j v lj lv)) (⊎_elim
        (λ (lt : v < lanes). subst (Small (prime m)) (sym (used_is (row_pair rows (2 * b + 2) (2 * j) (second_of second j)) lt)) (pair_small below (2 * b + 2) (2 * j) (second_of second j) v))
        (λ (ge : lanes ≤ v). subst (Small (prime m)) (sym (unused_is (row_pair rows (2 * b + 2) (2 * j) (second_of second j)) ge)) zero_small)
        (lt_or_ge v lanes))

pub mates_low : {m direction A : ℕ} {w : Value m} {l d : List ℕ} → MatedLanes m direction A w l A d → UpTo (2 * prime m) d
mates_low h = up_of h.long (λ v j lv lj. ((h.each j v lj lv).re, (h.each j v lj lv).im))

-- where the numbers fit
module _ {m : ℕ} (is : IsModulus m) {d : List ℕ} where
  pub rows_fit : UpTo (prime m) d → UpTo 1073741823 d
  rows_fit h = up_as h (omega (arith, prime_most is))

  pub rows_start_low : UpTo (prime m) d → UpTo (8 * prime m) d
  rows_start_low h = up_as h (omega arith)

  pub mates_start_low : UpTo (2 * prime m) d → UpTo (8 * prime m) d
  mates_start_low h = up_as h (omega arith)

  -- a transform of residues
  pub transformed_fit : {W : Value m} {factors n : ℕ} {line : List ℕ} → TransformedLanes m W factors n line d → UpTo (8 * prime m) line → UpTo 1073741823 d
  transformed_fit h low = up_as (h.low (8 * prime m) low) (omega (arith, mul-le-mul_left (32 * prime m) h.few, prime_most is))

  pub mates_fit : UpTo (2 * prime m) d → UpTo 2147483647 d
  mates_fit h = up_as h (omega (arith, prime_most is))

-- the short transform of a lane
short_lane : {m b : ℕ} {re im : List ℕ} (f : Frame m b re im) {factors : ℕ} {d e : List ℕ} → TransformedLanes m (table_root m re im) factors b d e → {v : ℕ} → v < 16
    → (g : ℕ → Value m) → ((t : ℕ) → t < b → value_of m (lane_at d t v) ≡ g t) → (s : ℕ) → s < b
    → value_of m (lane_at e s v) ≡ dft (field m) b (pow (field m) (line_root m b re im) 2) g s
short_lane {m} {b} f {d = d} {e = e} h {v} lv g same s ls =
    sym (values_list m b (λ j. value_of m (lane_at e j v)) s ls)
    ∙ short_values f g (line_in m b v d) (λ t lt. values_list m b (λ j. value_of m (lane_at d j v)) t lt ∙ same t lt) (h.is v lv) s ls

-- ---- synthesis

cond_below : {t b : ℕ} (x y : Pair) → t < b → cond (ltb t b) x y ≡ x
cond_below {t} {b} x y l = ap (λ c. cond c x y) (lt-ltb t b l)

cond_above : {t b : ℕ} (x y : Pair) → b ≤ t → cond (ltb t b) x y ≡ y
cond_above {t} {b} x y l = ap (λ c. cond c x y) (le-ltb t b l)

module _ {m b : ℕ} {re im : List ℕ} (f : Frame m b re im) (lanes : ℕ) (few : lanes ≤ 16) (rows : List ℕ) (long : length rows ≡ 2 * ((b + 1) * lanes)) {factors c : ℕ} where
  module _ {line fold fold' after : List ℕ} (came : GatheredRows rows (2 * b) b lanes b line) (mates : MatedLanes m 0 b (line_root m b re im) line b fold)
      (h : TransformedLanes m (table_root m re im) factors b fold fold') (left : ClosedRows m c fold' 1 b lanes rows after) (one : Holds m c (Value.ring m).one) where
    -- the packed line of row v
    abbrev packed : (v : ℕ) → ℕ → Value m
    packed v s = value_of m (packed_row b (at (row_of rows b v)) s)

    forward_value : (tan : List ℕ) (v s : ℕ) → v < lanes → s < b → value_of m (lane_at fold' s v) ≡ folded m 0 b re im tan hermitian (packed v) s
    forward_value tan v s lv ls =
        short_lane f h (omega arith) (on_values m fold1 b (line_root m b re im) (packed v)) (λ t lt.
        (mates.each t v lt (omega arith)).is
        ∙ mated_cong m 0 b (line_root m b re im) (λ j. value_of m (lane_at line j v)) (packed v) (λ j lj. ap (value_of m) (lane_packed few came v lv j lj)) t lt
        ∙ mated_fold m b (line_root m b re im) (packed v) t) s ls
        ∙ folded_forward m b re im tan (packed v) s

    pub synthesis_law : (tan : List ℕ) → after ≡ folded_rows m 0 b re im tan lanes rows
    synthesis_law tan = rows_law (folded_pair m 0 b re im tan) b lanes rows after long left.places.long (λ v t lv lt. ⊎_elim
        (λ (l : t < b).
        sym (row_at after b v t)
        ∙ ap (λ k. row_pair after (2 * b + 2) (2 * t) k v) (sym (second_plain t))
        ∙ left.places.new (Value.ring m).one one t v l lv
        ∙ ap pair_of (one_times m (value_of m (lane_at fold' t v)) ∙ forward_value tan v t lv l)
        ∙ sym (cond_below (pair_of (folded m 0 b re im tan hermitian (packed v) t)) zero_pair l))
        (λ (ge : b ≤ t).
        along (λ k. at after (v * suc b + k)) t b (omega arith)
        ∙ sym (row_at after b v b)
        ∙ along (λ k. row_pair after (2 * b + 2) k (2 * b + 1) v) (2 * b) (2 * b + 1 - 1) (omega arith)
        ∙ left.rest v lv
        ∙ sym (cond_above (pair_of (folded m 0 b re im tan hermitian (packed v) t)) zero_pair ge))
        (lt_or_ge t b))

-- ---- analysis

-- a pair of numbers, by its numbers
row_re : (rows : List ℕ) (width first second v : ℕ) {x : Pair} → row_pair rows width first second v ≡ x → get_or rows (v * width + first) 0 ≡ x.re
unfolding row_pair
row_re rows width first second v e = ap (λ (q : Pair). q.re) e

row_im : (rows : List ℕ) (width first second v : ℕ) {x : Pair} → row_pair rows width first second v ≡ x → get_or rows (v * width + second) 0 ≡ x.im
unfolding row_pair
row_im rows width first second v e = ap (λ (q : Pair). q.im) e

-- the first and the last pair of a row, from the pair that has both reals and the numbers that are zero
first_at : (rows : List ℕ) (b v : ℕ) {x y : Pair} → row_pair rows (2 * b + 2) 0 (2 * b) v ≡ x → row_pair rows (2 * b + 2) 1 (2 * b + 1) v ≡ y → at rows (v * suc b + 0) ≡ record { re = x.re; im = y.re }
unfolding at
first_at rows b v e f = pair_path
    (along (λ k. get_or rows k 0) (2 * (v * suc b + 0)) (v * (2 * b + 2) + 0) (omega arith) ∙ row_re rows (2 * b + 2) 0 (2 * b) v e)
    (along (λ k. get_or rows k 0) (2 * (v * suc b + 0) + 1) (v * (2 * b + 2) + 1) (omega arith) ∙ row_re rows (2 * b + 2) 1 (2 * b + 1) v f)

last_at : (rows : List ℕ) (b v : ℕ) {x y : Pair} → row_pair rows (2 * b + 2) 0 (2 * b) v ≡ x → row_pair rows (2 * b + 2) 1 (2 * b + 1) v ≡ y → at rows (v * suc b + b) ≡ record { re = x.im; im = y.im }
unfolding at
last_at rows b v e f = pair_path
    (along (λ k. get_or rows k 0) (2 * (v * suc b + b)) (v * (2 * b + 2) + 2 * b) (omega arith) ∙ row_im rows (2 * b + 2) 0 (2 * b) v e)
    (along (λ k. get_or rows k 0) (2 * (v * suc b + b) + 1) (v * (2 * b + 2) + (2 * b + 1)) (omega arith) ∙ row_im rows (2 * b + 2) 1 (2 * b + 1) v f)

unpacked_first : (b : ℕ) (x : ℕ → Pair) → record { re = (x 0).re; im = 0 } ≡ unpacked_row b x 0
unfolding unpacked_row
unpacked_first b x = refl

unpacked_between : (b : ℕ) (x : ℕ → Pair) (t : ℕ) → 0 < t → t < b → x t ≡ unpacked_row b x t
unfolding unpacked_row
unpacked_between b x zero l lt = absurd (omega arith)
unpacked_between b x (suc t) l lt = sym (cond_below (x (suc t)) (record { re = (x 0).im; im = 0 }) lt)

unpacked_last : (b : ℕ) (x : ℕ → Pair) → 0 < b → record { re = (x 0).im; im = 0 } ≡ unpacked_row b x b
unfolding unpacked_row
unpacked_last zero x l = absurd (omega arith)
unpacked_last (suc b) x l = sym (cond_above {t = suc b} {b = suc b} (x (suc b)) (record { re = (x 0).im; im = 0 }) (omega arith))

module _ {m b : ℕ} {re im : List ℕ} (f : Frame m b re im) (lanes : ℕ) (few : lanes ≤ 16) (rows : List ℕ) (long : length rows ≡ 2 * ((b + 1) * lanes)) {factors c : ℕ} where
  module _ {fold fold' line after : List ℕ} (came : GatheredRows rows 1 b lanes b fold) (h : TransformedLanes m (table_root m re im) factors b fold fold')
      (mates : MatedLanes m 1 b (line_root m b re im) fold' b line) (left : ClosedRows m c line (2 * b) b lanes rows after) (share : Holds m c (share_for m 1 b)) (tan : List ℕ) where
    -- row v, transformed
    abbrev turned : (v : ℕ) → ℕ → Value m
    turned v s = folded m 1 b re im tan hermitian (values_of m (row_of rows b v)) s

    back_value : (v s : ℕ) → v < lanes → s < b → (field m).mul (real m (share_for m 1 b)) (value_of m (lane_at line s v)) ≡ turned v s
    back_value v s lv ls =
        ap ((field m).mul (real m (share_for m 1 b))) (mates.each s v ls (omega arith)).is
        ∙ mated_folded m b re im tan (values_of m (row_of rows b v)) (λ j. value_of m (lane_at fold' j v))
        (short_lane f h (omega arith) (values_of m (row_of rows b v)) (λ t lt. ap (value_of m) (lane_row few came v lv t lt))) s ls

    -- the numbers of a place, and those of no place
    place : (v t : ℕ) → v < lanes → t < b → row_pair after (2 * b + 2) (2 * t) (second_of (2 * b) t) v ≡ pair_of (turned v t)
    place v t lv lt = left.places.new (share_for m 1 b) share t v lt lv ∙ ap pair_of (back_value v t lv lt)

    ends : (v : ℕ) → v < lanes → row_pair after (2 * b + 2) 0 (2 * b) v ≡ pair_of (turned v 0)
    ends v lv = ap (λ k. row_pair after (2 * b + 2) 0 k v) (sym (second_zero (2 * b))) ∙ place v 0 lv f.positive

    none : (v : ℕ) → v < lanes → row_pair after (2 * b + 2) 1 (2 * b + 1) v ≡ zero_pair
    none v lv = along (λ k. row_pair after (2 * b + 2) k (2 * b + 1) v) 1 (2 * b + 1 - 2 * b) (omega arith) ∙ left.rest v lv

    each : (v t : ℕ) → v < lanes → t < suc b → at after (v * suc b + t) ≡ unpacked_row b (λ s. pair_of (turned v s)) t
    each v t lv lt = ⊎_elim
        (λ (l : t < b). ⊎_elim
        (λ (l0 : t < 1). let e : t ≡ 0 = omega arith in
        subst (λ t. at after (v * suc b + t) ≡ unpacked_row b (λ s. pair_of (turned v s)) t) (sym e) (first_at after b v (ends v lv) (none v lv) ∙ unpacked_first b (λ s. pair_of (turned v s))))
        (λ (l1 : 1 ≤ t).
        sym (row_at after b v t)
        ∙ ap (λ k. row_pair after (2 * b + 2) (2 * t) k v) (sym (second_later (2 * b) t l1))
        ∙ place v t lv l
        ∙ unpacked_between b (λ s. pair_of (turned v s)) t l1 l)
        (lt_or_ge t 1))
        (λ (ge : b ≤ t). let e : t ≡ b = omega arith in
        subst (λ t. at after (v * suc b + t) ≡ unpacked_row b (λ s. pair_of (turned v s)) t) (sym e)
        (last_at after b v (ends v lv) (none v lv) ∙ unpacked_last b (λ s. pair_of (turned v s)) f.positive))
        (lt_or_ge t b)

    pub analysis_law : after ≡ folded_rows m 1 b re im tan lanes rows
    analysis_law = rows_law (folded_pair m 1 b re im tan) b lanes rows after long left.places.long each
