-- A group of symmetric or antisymmetric lines: what is gathered into the batch, folded there and scattered back is what the lines become one after the other.
use mathlib.Core.Path.{◌≡◌, refl, sym, ◌∙◌, ap, ap₂, subst}
use mathlib.Core.Bool.{false}
use mathlib.Core.Logic.{◌⊎◌, inl, inr, ⊎_elim}
use mathlib.Core.List.{List, [], ◌∷◌, ◌++◌}
use Prim.Native.Nat.{ℕ, zero, suc, ◌+◌, ◌*◌, ◌-◌, ◌<◌, ◌≤◌}
use native.Mathlib.Nat.{mul-le-mul_left}
use native.Mathlib.Omega.{arith}
use lib.ListN.{get_or, length, drop, length-append, length-drop}
use Rattle.algebra.specs.ring.Ring.{Ops, sum}
use Rattle.algebra.specs.ring.RingLaws.{CRing}
use Rattle.algebra.specs.lines.Folds.{mirror_point}
use Rattle.algebra.specs.lines.Kinds.{slots, unfold_before}
use Rattle.algebra.proofs.ring.Laws.{along, neg_zero, neg_neg}
use Rattle.algebra.proofs.ring.Solver.{ring, quote, linear}
use Rattle.algebra.proofs.lines.Unfold.{unfold_zero, unfold_low, unfold_middle, unfold_reflected, at_mirror}
use Rattle.numbers.specs.declared.Pair.{Pair}
use Rattle.numbers.specs.Value.{prime, Value, Residue, field, real, half, part, value_of, pair_of}
use Rattle.numbers.specs.Value as Value
use Rattle.numbers.specs.Bounds.{res, zero_pair, Small}
use Rattle.numbers.proofs.Primes.{prime_pos}
use Rattle.numbers.proofs.Parts.{half_law}
use Rattle.numbers.proofs.Residues.{res_ring, res_by, res_val}
use Rattle.numbers.proofs.Values.{pair_path, value_path, value_pair, field_ring, real_times}
use Rattle.roots.specs.Table.{table_root}
use Rattle.slices.specs.Pairs.{at, tab, values_of, list_of}
use Rattle.slices.specs.Segments.{segment, set_segment}
use Rattle.slices.proofs.Pairs.{lt_or_ge, at_tab, tab_cong}
use Rattle.slices.proofs.Segments.{length_segment, get_or_segment, get_or_before, length_set_segment, get_or_inside, get_d_after}
use Rattle.slices.proofs.Values.{values_list, list_cong}
use Rattle.batches.specs.Reduction.{Holds}
use Rattle.batches.specs.Lanes.{lane_at, line_in, UpTo}
use Rattle.batches.specs.Transforms.{TransformedLanes}
use Rattle.batches.specs.Groups.{lane_pair, Gathered, Scattered, LinesBelow}
use Rattle.batches.proofs.DrivingLanes.{up_as}
use Rattle.batches.proofs.PassingLanes.{up_of}
use Rattle.batches.proofs.VolumeLanes.{pair_used, pair_unused}
use Rattle.batches.proofs.GroupLaw.{group_law}
use Rattle.fold_formulas.specs.FoldFormulas.{Frame, sigma, folded}
use Rattle.folds.specs.FoldedLines.{mirror_kind, stored_count, whole_line, finished}
use Rattle.folds.proofs.MirrorLine.{stored_length, forward_of, forward_list, back_list}
use Rattle.folded_batches.specs.FoldedGroups.{folded_stored, folded_lines}
use Rattle.folded_batches.specs.MirrorLanes.{Places, WholeLines, PackedLines, ClearedEnds, Unpacked, TurnedBatch, twice, twice_finished, mirror_scale}
use Rattle.folded_batches.proofs.MirrorBlocks.{good_as, zero_value}
use Rattle.folded_batches.proofs.MirrorShort.{sigma_even, sigma_odd}

-- ---- how many pairs are stored

pub slots_stored : (A first : ℕ) → first ≤ 1 → slots (mirror_kind first) A ≡ stored_count A first
slots_stored A first l = let e = stored_length A first l refl in omega (arith, e)

-- ---- the places of the batch

-- the stored places as a part of the batch
module _ (A first : ℕ) (l : List ℕ) (one : first ≤ 1) (pos : 0 < A) (long : length l ≡ 32 * (A + 1)) where
  abbrev b : ℕ
  b = 32 * first

  abbrev e : ℕ
  e = 32 * (A + 1 - first)

  le : b ≤ e
  le = omega arith

  fits : e ≤ length l
  fits = omega arith

  pub part_long : length (segment b e l) ≡ 32 * stored_count A first
  part_long = length_segment b e l le fits ∙ count
    where
      count : e - b ≡ 32 * stored_count A first
      count = omega arith

  pub lane_part : (j v : ℕ) → j < stored_count A first → v < 16 → lane_at (segment b e l) j v ≡ lane_at l (first + j) v
  unfolding lane_at
  lane_part j v lj lv = pair_path
      (get_or_segment b e l le fits (32 * j + v) (omega arith) ∙ along (λ k. get_or l k 0) (b + (32 * j + v)) (32 * (first + j) + v) (omega arith))
      (get_or_segment b e l le fits (32 * j + v + 16) (omega arith) ∙ along (λ k. get_or l k 0) (b + (32 * j + v + 16)) (32 * (first + j) + v + 16) (omega arith))

  module _ (ys : List ℕ) (ylong : length ys ≡ 32 * stored_count A first) where
    part_count : length ys ≡ e - b
    part_count = omega arith

    pub lane_inside : (j v : ℕ) → j < stored_count A first → v < 16 → lane_at (set_segment b e l ys) (first + j) v ≡ lane_at ys j v
    unfolding lane_at
    lane_inside j v lj lv = pair_path
        (along (λ k. get_or (set_segment b e l ys) k 0) (32 * (first + j) + v) (b + (32 * j + v)) (omega arith) ∙ get_or_inside b e l le fits ys part_count (32 * j + v) (omega arith))
        (along (λ k. get_or (set_segment b e l ys) k 0) (32 * (first + j) + v + 16) (b + (32 * j + v + 16)) (omega arith) ∙ get_or_inside b e l le fits ys part_count (32 * j + v + 16) (omega arith))

    lane_end : (j v : ℕ) → v < 16 → first ≡ 1 → (j ≡ 0) ⊎ (j ≡ A) → lane_at (set_segment b e l ys) j v ≡ lane_at l j v
    unfolding lane_at
    lane_end j v lv odd = ⊎_elim
        (λ (z : j ≡ 0). pair_path (get_or_before b e l le fits ys (32 * j + v) (omega arith)) (get_or_before b e l le fits ys (32 * j + v + 16) (omega arith)))
        (λ (z : j ≡ A). pair_path (get_d_after b e l le fits ys part_count (32 * j + v) (omega arith)) (get_d_after b e l le fits ys part_count (32 * j + v + 16) (omega arith)))

    pub unpacked_by : {volume before : List ℕ} {start stride lanes : ℕ} → ClearedEnds first A before l → Gathered volume start stride lanes (stored_count A first) ys → Unpacked volume first A start stride lanes (set_segment b e l ys)
    unpacked_by c g = record {
      long = length_set_segment b e l le fits ys part_count ∙ long;
      stored = λ v j lv lj. lane_inside j v lj lv ∙ g.each j v lj lv;
      ends = λ v j lv odd z. lane_end j v lv odd z ∙ c.ends v j lv odd z;
    }

-- ---- the lines of the batch

-- the packed line of lane v
abbrev pub packed_lane : (volume : List ℕ) (A first start stride lanes v : ℕ) → List ℕ
packed_lane volume A first start stride lanes v = tab (stored_count A first) (λ j. lane_pair volume (start + j * stride) lanes v)

module _ (m : ℕ) where
  open field m use {mul as ◌⊗◌, neg as ⊖◌, zer as 𝟘}

  infixl 70 ◌⊗◌
  infix 75 ⊖◌
  module _ {A : ℕ} (pos : 0 < A) where
    even_far : (l : List ℕ) (j : ℕ) → 0 < j → j ≤ A → whole_line m A 0 l (2 * A - j) ≡ sigma (field m) 0 ⊗ whole_line m A 0 l j
    unfolding unfold_before
    even_far l j some high =
        at_mirror (field_ring m) (2 * A) (λ t x. x) (whole_line m A 0 l) (unfold_reflected A _ _ (λ t x. x) (values_of m l) (field m) pos refl refl (λ t u x e. refl)) j (2 * A - j) some (omega arith) (omega arith)
        ∙ sym (sigma_even m (whole_line m A 0 l j) refl)

    odd_far : (l : List ℕ) (j : ℕ) → 0 < j → j ≤ A → whole_line m A 1 l (2 * A - j) ≡ sigma (field m) 1 ⊗ whole_line m A 1 l j
    unfolding unfold_before
    odd_far l j some high =
        at_mirror (field_ring m) (2 * A) (λ t x. ⊖ x) (whole_line m A 1 l)
        (unfold_reflected A _ _ (λ t x. ⊖ x) (λ t. values_of m l (t - 1)) (field m) pos (neg_zero (field_ring m)) (neg_zero (field_ring m)) (λ t u x e. neg_neg (field_ring m) x)) j (2 * A - j) some (omega arith) (omega arith)
        ∙ sym (sigma_odd m (whole_line m A 1 l j) refl)

module _ (m : ℕ) (volume : List ℕ) (A start stride lanes : ℕ) (line : List ℕ) (pos : 0 < A) where
  abbrev packed : (first v j : ℕ) → Value m
  packed first v j = values_of m (packed_lane volume A first start stride lanes v) j

  stored_value : (first : ℕ) → Unpacked volume first A start stride lanes line → (v j : ℕ) → v < 16 → j < stored_count A first → value_of m (lane_at line (first + j) v) ≡ packed first v j
  stored_value first u v j lv lj = ap (value_of m) (u.stored v j lv lj ∙ sym (at_tab (λ j. lane_pair volume (start + j * stride) lanes v) (stored_count A first) j lj))

  end_value : (first : ℕ) → first ≡ 1 → Unpacked volume first A start stride lanes line → (v j : ℕ) → v < 16 → (j ≡ 0) ⊎ (j ≡ A) → value_of m (lane_at line j v) ≡ (field m).zer
  unfolding value_of
  end_value first odd u v j lv z = ap (value_of m) (u.ends v j lv odd z) ∙ zero_value m

  even_near : Unpacked volume 0 A start stride lanes line → (v j : ℕ) → v < 16 → j ≤ A → value_of m (lane_at line j v) ≡ whole_line m A 0 (packed_lane volume A 0 start stride lanes v) j
  unfolding unfold_before
  even_near u v j lv l = along (λ i. value_of m (lane_at line i v)) j (0 + j) (omega arith) ∙ stored_value 0 u v j lv (omega arith) ∙ ⊎_elim
      (λ (low : j < A). ⊎_elim
      (λ (some : 0 < j). sym (unfold_low A _ _ (λ t x. x) (packed 0 v) j some low))
      (λ (none : j ≤ 0). let z : j ≡ 0 = omega arith in ap (packed 0 v) z ∙ sym (unfold_zero A _ _ (λ t x. x) (packed 0 v)) ∙ ap (whole_line m A 0 (packed_lane volume A 0 start stride lanes v)) (sym z))
      (lt_or_ge 0 j))
      (λ (high : A ≤ j). let z : j ≡ A = omega arith in ap (packed 0 v) z ∙ sym (unfold_middle A _ _ (λ t x. x) (packed 0 v) pos) ∙ ap (whole_line m A 0 (packed_lane volume A 0 start stride lanes v)) (sym z))
      (lt_or_ge j A)

  odd_near : Unpacked volume 1 A start stride lanes line → (v j : ℕ) → v < 16 → j ≤ A → value_of m (lane_at line j v) ≡ whole_line m A 1 (packed_lane volume A 1 start stride lanes v) j
  unfolding unfold_before
  odd_near u v j lv l = ⊎_elim
      (λ (low : j < A). ⊎_elim
      (λ (some : 0 < j). along (λ i. value_of m (lane_at line i v)) j (1 + (j - 1)) (omega arith) ∙ stored_value 1 u v (j - 1) lv (omega arith) ∙ sym (unfold_low A _ _ (λ t x. (field m).neg x) (λ t. packed 1 v (t - 1)) j some low))
      (λ (none : j ≤ 0). let z : j ≡ 0 = omega arith in end_value 1 refl u v j lv (inl z) ∙ sym (unfold_zero A _ _ (λ t x. (field m).neg x) (λ t. packed 1 v (t - 1))) ∙ ap (whole_line m A 1 (packed_lane volume A 1 start stride lanes v)) (sym z))
      (lt_or_ge 0 j))
      (λ (high : A ≤ j). let z : j ≡ A = omega arith in end_value 1 refl u v j lv (inr z) ∙ sym (unfold_middle A _ _ (λ t x. (field m).neg x) (λ t. packed 1 v (t - 1)) pos) ∙ ap (whole_line m A 1 (packed_lane volume A 1 start stride lanes v)) (sym z))
      (lt_or_ge j A)

  whole_even : Unpacked volume 0 A start stride lanes line → WholeLines m A 0 line (λ v. whole_line m A 0 (packed_lane volume A 0 start stride lanes v))
  whole_even u = record { near = even_near u; far = λ v j lv some high. even_far m pos (packed_lane volume A 0 start stride lanes v) j some high }

  whole_odd : Unpacked volume 1 A start stride lanes line → WholeLines m A 1 line (λ v. whole_line m A 1 (packed_lane volume A 1 start stride lanes v))
  whole_odd u = record { near = odd_near u; far = λ v j lv some high. odd_far m pos (packed_lane volume A 1 start stride lanes v) j some high }

  pub unpacked_whole : (first : ℕ) → first ≤ 1 → Unpacked volume first A start stride lanes line → WholeLines m A first line (λ v. whole_line m A first (packed_lane volume A first start stride lanes v))
  unpacked_whole zero one u = whole_even u
  unpacked_whole (suc zero) one u = whole_odd u
  unpacked_whole (suc (suc n)) one u = absurd (omega arith)

  -- the numbers of the batch are those of the lines, or zero
  pub unpacked_low : (first : ℕ) → first ≤ 1 → Unpacked volume first A start stride lanes line → LinesBelow m start stride (stored_count A first) lanes volume → UpTo (prime m) line
  unpacked_low first one u below = up_of u.long (λ v j lv lj. let s = small v j lv lj in (omega (arith, s.re), omega (arith, s.im)))
    where
      zero_small : Small (prime m) zero_pair
      zero_small = record { re = prime_pos m; im = prime_pos m }

      lane_small : (v j : ℕ) → j < stored_count A first → Small (prime m) (lane_pair volume (start + j * stride) lanes v)
      lane_small v j lj = ⊎_elim
          (λ (lt : v < lanes). subst (Small (prime m)) (along (at volume) (start + v + j * stride) (start + j * stride + v) (omega arith) ∙ pair_used volume (start + j * stride) lt) (below.each v j lt lj))
          (λ (ge : lanes ≤ v). subst (Small (prime m)) (pair_unused volume (start + j * stride) ge) zero_small)
          (lt_or_ge v lanes)

      stored_small : (v j : ℕ) → v < 16 → j < stored_count A first → Small (prime m) (lane_at line (first + j) v)
      stored_small v j lv lj = subst (Small (prime m)) (sym (u.stored v j lv lj)) (lane_small v j lj)

      end_small : (v j : ℕ) → v < 16 → first ≡ 1 → (j ≡ 0) ⊎ (j ≡ A) → Small (prime m) (lane_at line j v)
      end_small v j lv odd z = subst (Small (prime m)) (sym (u.ends v j lv odd z)) zero_small

      inner_small : (v j : ℕ) → v < 16 → first ≤ j → j < A + 1 - first → Small (prime m) (lane_at line j v)
      inner_small v j lv low high = subst (λ i. Small (prime m) (lane_at line i v)) same (stored_small v (j - first) lv (omega arith))
        where
          same : first + (j - first) ≡ j
          same = omega arith

      small : (v j : ℕ) → v < 16 → j < A + 1 → Small (prime m) (lane_at line j v)
      small v j lv lj = ⊎_elim
          (λ (low : j < first). let z : j ≡ 0 = omega arith in end_small v j lv (omega arith) (inl z))
          (λ (ge : first ≤ j). ⊎_elim
          (inner_small v j lv ge)
          (λ (high : A + 1 - first ≤ j). let z : j ≡ A = omega arith in end_small v j lv (omega arith) (inr z))
          (lt_or_ge j (A + 1 - first)))
          (lt_or_ge j first)

-- ---- the fold of each lane

-- the batch after its first A places were lent
pub lent_back : (A : ℕ) (l ys : List ℕ) → length l ≡ 32 * (A + 1) → length ys ≡ 32 * A → length (ys ++ drop (32 * A) l) ≡ 32 * (A + 1)
lent_back A l ys long ylong = simp (length-append, length-drop) (omega arith)

pub short_low : {m A first : ℕ} {line fold : List ℕ} → length fold ≡ 32 * A → PackedLines m A first line
    → ((X : ℕ → ℕ → Value m) → WholeLines m A first line X → Places m (8 * prime m) (λ v. mirror_point (field m) (X v)) 0 A fold) → UpTo (8 * prime m) fold
short_low long packed short = up_of long (λ v j lv lj. let g = (short _ packed.whole).each v j lv (omega arith) lj in (g.re, g.im))

pub turned_low : {m A factors : ℕ} {W : Value m} {fold fold' : List ℕ} → UpTo (8 * prime m) fold → TransformedLanes m W factors A fold fold' → UpTo (360 * prime m) fold'
turned_low {m} up h = up_as (h.low (8 * prime m) up) (omega (arith, mul-le-mul_left (32 * prime m) h.few))

module _ (m A first : ℕ) (re im tan : List ℕ) (frame : Frame m A re im) (one : first ≤ 1) {factors : ℕ} {fold fold' line' : List ℕ} (L : ℕ → List ℕ)
    (short : Places m (8 * prime m) (λ v. mirror_point (field m) (whole_line m A first (L v))) 0 A fold) (h : TransformedLanes m (table_root m re im) factors A fold fold')
    (fin : Places m 2147483647 (twice_finished m A first tan fold' (λ v. sum (field m) A (λ t. whole_line m A first (L v) (2 * t + 1)))) first (A + 1 - first) line') where
  abbrev odds : ℕ → Value m
  odds v = sum (field m) A (λ t. whole_line m A first (L v) (2 * t + 1))

  abbrev finished_at : ℕ → ℕ → Value m
  finished_at v p = finished m A first tan (line_in m A v fold') (value_of m (pair_of (odds v))) (first + p)

  lane_list : (v : ℕ) → v < 16 → list_of (stored_count A first) (finished_at v) ≡ list_of (slots (mirror_kind first) A) (forward_of m A first re im tan (L v) frame one)
  lane_list v lv = forward_list m A first re im tan (L v) frame one {fold = line_in m A v fold} {short = line_in m A v fold'} {o = pair_of (odds v)}
      (list_cong m A _ _ (λ j lj. (short.each v j lv (omega arith) lj).is)) (h.is v lv) refl refl

  lane_finished : (v p : ℕ) → v < 16 → p < stored_count A first → finished m A first tan (line_in m A v fold') (odds v) (first + p) ≡ folded m 0 A re im tan (mirror_kind first) (values_of m (L v)) p
  lane_finished v p lv lp =
      ap (λ x. finished m A first tan (line_in m A v fold') x (first + p)) (sym (value_pair m (odds v)))
      ∙ sym (values_list m (stored_count A first) (finished_at v) p lp)
      ∙ ap (λ l. values_of m l p) (lane_list v lv)
      ∙ values_list m (slots (mirror_kind first) A) (forward_of m A first re im tan (L v) frame one) p (omega (arith, slots_stored A first one))

  pub batch_turned : length line' ≡ 32 * (A + 1) → TurnedBatch m A first re im tan L line'
  batch_turned long = record {
    long = long;
    each = λ v p lv lp. good_as refl (ap (twice m) (lane_finished v p lv lp)) (fin.each v (first + p) lv (omega arith) (omega arith));
  }

-- ---- the last factor

module _ (m : ℕ) where
  pub half_holds : {s c : ℕ} → s ≡ (res m 4294967296).val → c ≡ ((Value.ring m).mul (half m) (res m s)).val → Holds m c (half m)
  half_holds {s} e h = record { is = res_by m ((Value.ring m).mul (half m) (res m s)) h ∙ ap ((Value.ring m).mul (half m)) (res_by m (res m 4294967296) e) ∙ (res_ring m).mul_comm (half m) (res m 4294967296) }

  pub share_holds : (n : ℕ) {h q c : ℕ} → Holds m h (half m) → q ≡ (part m n).val → c ≡ ((Value.ring m).mul (res m h) (res m q)).val → Holds m c ((Value.ring m).mul (half m) (part m n))
  share_holds n {h} {q} e f g = record {
    is =
        res_by m ((Value.ring m).mul (res m h) (res m q)) g ∙ ap₂ (Value.ring m).mul e.is (res_by m (part m n) f) ∙ (res_ring m).mul_assoc (res m 4294967296) (half m) (part m n);
  }

  pub mirror_scale_as : (A : ℕ) {d direction c : ℕ} → direction ≡ d → Holds m c (mirror_scale m d A) → Holds m c (mirror_scale m direction A)
  mirror_scale_as A {c = c} e h = subst (λ d. Holds m c (mirror_scale m d A)) (sym e) h

module _ {R : Type 0} {𝓞 : Ops R} (𝓡 : CRing 𝓞) where
  open 𝓞 use {add as ◌⊕◌, mul as ◌⊗◌, neg as ⊖◌, one as 𝟙}

  infixl 65 ◌⊕◌
  infixl 70 ◌⊗◌
  infix 75 ⊖◌
  halved_twice : (h z : R) → h ⊗ (𝟙 ⊕ 𝟙) ≡ 𝟙 → h ⊗ (z ⊕ z) ≡ z
  halved_twice h z e = linear 𝓡 e z (ring 𝓡 (h ∷ z ∷ []) (search quote depth 40 fits 9999) refl)

-- ---- the lines of the volume

module _ (m A first : ℕ) (re im tan : List ℕ) (frame : Frame m A re im) (one : first ≤ 1) (l : List ℕ) where
  abbrev way : ℕ → ℕ → Value m
  way direction = folded m direction A re im tan (mirror_kind first) (values_of m l)

  back_list_is : list_of (stored_count A first) (λ t. (field m).mul (real m (res m (part m (2 * A)).val)) (values_of m (list_of (slots (mirror_kind first) A) (way 0)) t)) ≡ list_of (slots (mirror_kind first) A) (way 1)
  back_list_is = back_list m A first re im tan l frame one {result = list_of (slots (mirror_kind first) A) (way 0)} refl refl refl

  back_value : (p : ℕ) → p < stored_count A first → (field m).mul (real m (part m (2 * A))) (way 0 p) ≡ way 1 p
  back_value p lp =
      ap₂ (λ x z. (field m).mul (real m x) z) (sym (res_val m (part m (2 * A)))) (sym (values_list m (slots (mirror_kind first) A) (way 0) p (omega (arith, slots_stored A first one))))
      ∙ sym (values_list m (stored_count A first) _ p lp)
      ∙ ap (λ d. values_of m d p) back_list_is
      ∙ values_list m (slots (mirror_kind first) A) (way 1) p (omega (arith, slots_stored A first one))

  scaled_product : (x y : Residue m) (z : Value m) → (field m).mul (real m ((Value.ring m).mul x y)) z ≡ (field m).mul (real m x) ((field m).mul (real m y) z)
  scaled_product x y z =
      real_times m ((Value.ring m).mul x y) z
      ∙ value_path ((res_ring m).mul_assoc x y z.0) ((res_ring m).mul_assoc x y z.1)
      ∙ sym (ap ((field m).mul (real m x)) (real_times m y z) ∙ real_times m x _)

  spread_twice : (a z : Value m) → (field m).mul a (twice m z) ≡ twice m ((field m).mul a z)
  spread_twice a z = ring (field_ring m) (a ∷ z ∷ []) (search quote depth 40 fits 9999) refl

  -- twice the fold of a line, times the last factor, is the line as it is stored
  pub scaled_stored : (direction p : ℕ) → p < stored_count A first → pair_of ((field m).mul (real m (mirror_scale m direction A)) (twice m (way 0 p))) ≡ at (folded_stored m direction false A re im tan (mirror_kind first) l) p
  scaled_stored zero p lp =
      ap pair_of (halved_twice (field_ring m) (real m (half m)) (way 0 p) (half_law m))
      ∙ sym (at_tab (λ p. pair_of (way 0 p)) (slots (mirror_kind first) A) p (omega (arith, slots_stored A first one)))
  scaled_stored (suc direction) p lp =
      ap pair_of
      (scaled_product (half m) (part m (2 * A)) (twice m (way 0 p))
      ∙ ap ((field m).mul (real m (half m))) (spread_twice (real m (part m (2 * A))) (way 0 p))
      ∙ halved_twice (field_ring m) (real m (half m)) ((field m).mul (real m (part m (2 * A))) (way 0 p)) (half_law m)
      ∙ back_value p lp)
      ∙ sym (at_tab (λ p. pair_of (way 1 p)) (slots (mirror_kind first) A) p (omega (arith, slots_stored A first one)))

module _ (m A first : ℕ) (re im tan : List ℕ) (frame : Frame m A re im) (one : first ≤ 1) where
  pub stored_low : {L : ℕ → List ℕ} {line' : List ℕ} → TurnedBatch m A first re im tan L line' → UpTo 2147483647 (segment (32 * first) (32 * (A + 1 - first)) line')
  stored_low {L} {line'} turned = up_of (part_long A first line' one frame.positive turned.long) (λ v j lv lj.
      let g = turned.each v j lv lj in
      let e = lane_part A first line' one frame.positive turned.long j v lj lv in
      (subst (λ (x : Pair). x.re ≤ 2147483647) (sym e) g.re, subst (λ (x : Pair). x.im ≤ 2147483647) (sym e) g.im))

  module _ (direction start stride lanes : ℕ) {c : ℕ} (volume : List ℕ) {after line' : List ℕ} (few : lanes ≤ 16) (wide : lanes ≤ stride)
      (turned : TurnedBatch m A first re im tan (packed_lane volume A first start stride lanes) line')
      (fits : 2 * (start + slots (mirror_kind first) A * stride + lanes) ≤ length volume + 2 * stride) (holds : Holds m c (mirror_scale m direction A))
      (left : Scattered m c (segment (32 * first) (32 * (A + 1 - first)) line') start stride lanes (stored_count A first) volume after) where
    -- the packed line of a lane that is used
    lane_line : (v : ℕ) → v < lanes → packed_lane volume A first start stride lanes v ≡ tab (slots (mirror_kind first) A) (λ i. at volume (start + v + i * stride))
    lane_line v lv =
        tab_cong (stored_count A first) _ _ (λ j lj. sym (pair_used volume (start + j * stride) lv) ∙ along (at volume) (start + j * stride + v) (start + v + j * stride) (omega arith))
        ∙ ap (λ n. tab n (λ i. at volume (start + v + i * stride))) (sym (slots_stored A first one))

    line_left : (v p : ℕ) → v < lanes → p < stored_count A first
        → at after (start + v + p * stride) ≡ at (folded_stored m direction false A re im tan (mirror_kind first) (tab (slots (mirror_kind first) A) (λ i. at volume (start + v + i * stride)))) p
    line_left v p lv lp =
        along (at after) (start + v + p * stride) (start + p * stride + v) (omega arith)
        ∙ left.new (mirror_scale m direction A) holds p v lp lv
        ∙ ap (λ z. pair_of ((field m).mul (real m (mirror_scale m direction A)) z)) (ap (value_of m) (lane_part A first line' one frame.positive turned.long p v lp (omega arith)) ∙ (turned.each v p (omega arith) lp).is)
        ∙ scaled_stored m A first re im tan frame one (packed_lane volume A first start stride lanes v) direction p lp
        ∙ ap (λ l. at (folded_stored m direction false A re im tan (mirror_kind first) l) p) (lane_line v lv)

    pub group_folded : after ≡ folded_lines m direction false A re im tan (mirror_kind first) start stride lanes volume
    group_folded = group_law start (slots (mirror_kind first) A) wide (folded_stored m direction false A re im tan (mirror_kind first)) volume after fits left.long
        (λ v p lv lp. line_left v p lv (omega (arith, slots_stored A first one)))
        (λ k away. left.kept k (λ j v lj lv q. away v j lv (omega (arith, slots_stored A first one)) (omega (arith, q))))
