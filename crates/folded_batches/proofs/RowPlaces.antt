-- Rows of a part of a volume into the lanes of a batch, and back.
use mathlib.Core.Path.{◌≡◌, refl, sym, ◌∙◌, ap, subst}
use mathlib.Core.Bool.{cond}
use mathlib.Core.Logic.{◌≢◌, ⊎_elim}
use mathlib.Core.List.{List}
use Prim.Native.Nat.{ℕ, zero, suc, ◌+◌, ◌*◌, ◌-◌, ◌<◌, ◌≤◌}
use native.Mathlib.Omega.{arith}
use borrow.Author.Tests.{lt-ltb, le-ltb}
use lib.ListN.{get_or, set, length, replicate, length-set}
use lib.Seq.{get_or-set_same, get_or-set_other}
use Rattle.numbers.specs.declared.Pair.{Pair}
use Rattle.numbers.specs.Value.{field, real, value_of, pair_of}
use Rattle.numbers.specs.Bounds.{zero_pair}
use Rattle.numbers.proofs.Values.{pair_path}
use Rattle.slices.proofs.Pairs.{eq_or_ne}
use Rattle.slices.proofs.Rows.{row_inj}
use Rattle.batches.specs.Lanes.{lane_at}
use Rattle.batches.specs.Groups.{ReducedPlace}
use Rattle.batches.proofs.VolumeLanes.{reduced_pair, numbers_lane}
use Rattle.folded_batches.specs.RowLanes.{second_of, SecondIn, row_pair, used_pair, PutRows, ScatteredRows, ClosedRows}
use Rattle.folded_batches.proofs.MixedLanes.{zero_lane}

below_other : {i n : ℕ} → i < n + 1 → i ≢ n → i < n
below_other l other = omega (arith, other)

-- ---- the second number of a place

module _ {b second : ℕ} (s : SecondIn b second) where
  pub second_low : (j : ℕ) → j < b → second_of second j < 2 * b + 2
  unfolding second_of
  second_low zero l = ⊎_elim (λ (e : second ≡ 1). omega arith) (λ (e : second ≡ 2 * b). omega arith) s.is
  second_low (suc j) l = omega arith

  pub second_even : (i j : ℕ) → i < b → j < b → second_of second i ≢ 2 * j
  unfolding second_of
  second_even zero j li lj = λ q. ⊎_elim (λ (e : second ≡ 1). omega arith) (λ (e : second ≡ 2 * b). omega arith) s.is
  second_even (suc i) j li lj = λ q. omega arith

  pub second_apart : (i j : ℕ) → i < b → j < b → i ≢ j → second_of second i ≢ second_of second j
  unfolding second_of
  second_apart zero zero li lj n = λ q. n refl
  second_apart zero (suc j) li lj n = λ q. ⊎_elim (λ (e : second ≡ 1). omega arith) (λ (e : second ≡ 2 * b). omega arith) s.is
  second_apart (suc i) zero li lj n = λ q. ⊎_elim (λ (e : second ≡ 1). omega arith) (λ (e : second ≡ 2 * b). omega arith) s.is
  second_apart (suc i) (suc j) li lj n = λ q. n (omega arith)

  -- the numbers that no place has
  module _ (pos : 0 < b) where
    pub third_low : 2 * b + 1 - second < 2 * b + 1
    third_low = ⊎_elim (λ (e : second ≡ 1). omega arith) (λ (e : second ≡ 2 * b). omega arith) s.is

    pub third_even : (j : ℕ) → j < b → 2 * b + 1 - second ≢ 2 * j
    third_even j l = λ q. ⊎_elim (λ (e : second ≡ 1). omega arith) (λ (e : second ≡ 2 * b). omega arith) s.is

    pub third_second : (j : ℕ) → j < b → 2 * b + 1 - second ≢ second_of second j
    unfolding second_of
    third_second zero l = λ q. ⊎_elim (λ (e : second ≡ 1). omega arith) (λ (e : second ≡ 2 * b). omega arith) s.is
    third_second (suc j) l = λ q. ⊎_elim (λ (e : second ≡ 1). omega arith) (λ (e : second ≡ 2 * b). omega arith) s.is

    pub last_second : (j : ℕ) → j < b → 2 * b + 1 ≢ second_of second j
    unfolding second_of
    last_second zero l = λ q. ⊎_elim (λ (e : second ≡ 1). omega arith) (λ (e : second ≡ 2 * b). omega arith) s.is
    last_second (suc j) l = λ q. omega arith

-- ---- gathering

pub row_read : (rows : List ℕ) (width first second v : ℕ) {a b : ℕ} → a ≡ get_or rows (v * width + first) 0 → b ≡ get_or rows (v * width + second) 0 → record { re = a; im = b } ≡ row_pair rows width first second v
unfolding row_pair
row_read rows width first second v ea eb = pair_path ea eb

module _ (f : ℕ → Pair) {lanes v : ℕ} where
  pub lane_used : {x : Pair} → v < lanes → x ≡ f v → x ≡ used_pair lanes f v
  unfolding used_pair
  lane_used l e = e ∙ sym (ap (λ b. cond b (f v) zero_pair) (lt-ltb v lanes l))

  pub lane_unused : lanes ≤ v → zero_pair ≡ used_pair lanes f v
  unfolding used_pair
  lane_unused l = sym (ap (λ b. cond b (f v) zero_pair) (le-ltb v lanes l))

-- ---- scattering: one place

row_kept : (a d : List ℕ) (width first second u : ℕ) → get_or a (u * width + first) 0 ≡ get_or d (u * width + first) 0 → get_or a (u * width + second) 0 ≡ get_or d (u * width + second) 0
    → row_pair a width first second u ≡ row_pair d width first second u
unfolding row_pair
row_kept a d width first second u e f = pair_path e f

module _ (y : List ℕ) {width first second : ℕ} {before : List ℕ} where
  module _ {v : ℕ} (d : List ℕ) (h : PutRows (λ v. lane_at y 0 v) width first second v before d) (lf : first < width) (ls : second < width) (n : first ≢ second) (inside : v * width + width ≤ length before) where
    stored : List ℕ
    stored = set (set d (v * width + first) (get_or y v 0)) (v * width + second) (get_or y (v + 16) 0)

    stored_other : (k : ℕ) → k ≢ v * width + first → k ≢ v * width + second → get_or stored k 0 ≡ get_or d k 0
    unfolding stored
    stored_other k nf ns =
        get_or-set_other (set d (v * width + first) (get_or y v 0)) (v * width + second) k (get_or y (v + 16) 0) 0 ns
        ∙ get_or-set_other d (v * width + first) k (get_or y v 0) 0 nf

    stored_pair : row_pair stored width first second v ≡ lane_at y 0 v
    unfolding stored row_pair
    stored_pair =
        pair_path
        (get_or-set_other (set d (v * width + first) (get_or y v 0)) (v * width + second) (v * width + first) (get_or y (v + 16) 0) 0 (λ e. n (omega arith))
        ∙ get_or-set_same d (v * width + first) (get_or y v 0) 0 (omega (arith, h.long)))
        (get_or-set_same (set d (v * width + first) (get_or y v 0)) (v * width + second) (get_or y (v + 16) 0) 0 (omega (arith, h.long, length-set d (v * width + first) (get_or y v 0))))
        ∙ numbers_lane y v

    pub put_next : PutRows (λ v. lane_at y 0 v) width first second (v + 1) before (set (set d (v * width + first) (get_or y v 0)) (v * width + second) (get_or y (v + 16) 0))
    unfolding stored
    put_next = record {
      long = length-set (set d (v * width + first) (get_or y v 0)) (v * width + second) (get_or y (v + 16) 0) ∙ length-set d (v * width + first) (get_or y v 0) ∙ h.long;
      new = λ u lu. ⊎_elim
          (λ (e : u ≡ v). subst (λ k. row_pair stored width first second k ≡ lane_at y 0 k) (sym e) stored_pair)
          (λ (other : u ≢ v). untouched u other ∙ h.new u (below_other lu other))
          (eq_or_ne u v);
      kept = λ k away. stored_other k (λ e. (away v (omega arith)).0 (sym e)) (λ e. (away v (omega arith)).1 (sym e)) ∙ h.kept k (λ u lu. away u (omega arith));
    }
      where
        untouched : (u : ℕ) → u ≢ v → row_pair stored width first second u ≡ row_pair d width first second u
        untouched u other = row_kept stored d width first second u
            (stored_other (u * width + first) (λ e. other (row_inj u v lf lf e).0) (λ e. other (row_inj u v lf ls e).0))
            (stored_other (u * width + second) (λ e. other (row_inj u v ls lf e).0) (λ e. other (row_inj u v ls ls e).0))

-- ---- all places

-- numbers of a row that a store to other numbers leaves
module _ {f : ℕ → Pair} {width first second lanes : ℕ} {before after : List ℕ} (p : PutRows f width first second lanes before after) (lf : first < width) (ls : second < width) where
  pub row_untouched : (i j : ℕ) → i < width → j < width → first ≢ i → first ≢ j → second ≢ i → second ≢ j → (v : ℕ) → row_pair after width i j v ≡ row_pair before width i j v
  row_untouched i j li lj fi fj si sj v = row_kept after before width i j v
      (p.kept (v * width + i) (λ u lu. (λ e. fi (row_inj u v lf li e).1, λ e. si (row_inj u v ls li e).1)))
      (p.kept (v * width + j) (λ u lu. (λ e. fj (row_inj u v lf lj e).1, λ e. sj (row_inj u v ls lj e).1)))

module _ {m c : ℕ} {s : List ℕ} {second b lanes : ℕ} {before : List ℕ} where
  module _ (in_row : SecondIn b second) where
    pub spread_next : {j : ℕ} {d e y : List ℕ} → ScatteredRows m c s second b lanes j before d → j < b → lanes ≤ 16 → ReducedPlace m c s j 32 y
        → PutRows (λ v. lane_at y 0 v) (2 * b + 2) (2 * j) (second_of second j) lanes d e → ScatteredRows m c s second b lanes (j + 1) before e
    spread_next {j} {d} {e} {y} h lj few r p = record {
      long = p.long ∙ h.long;
      new = λ c₀ q i v li lv. ⊎_elim
          (λ (same : i ≡ j). ap (λ k. row_pair e (2 * b + 2) (2 * k) (second_of second k) v) same ∙ p.new v lv ∙ reduced_pair r c₀ q v (omega arith) ∙ ap (λ k. pair_of ((field m).mul (real m c₀) (value_of m (lane_at s k v)))) (sym same))
          (λ (other : i ≢ j). kept i v (below_other li other) ∙ h.new c₀ q i v (below_other li other) lv)
          (eq_or_ne i j);
    }
      where
        kept : (i v : ℕ) → i < j → row_pair e (2 * b + 2) (2 * i) (second_of second i) v ≡ row_pair d (2 * b + 2) (2 * i) (second_of second i) v
        kept i v li = row_untouched p (omega arith) (second_low in_row j lj) (2 * i) (second_of second i) (omega arith) (second_low in_row i (omega arith))
            (λ q. omega arith) (λ q. second_even in_row i j (omega arith) lj (sym q)) (second_even in_row j i lj (omega arith)) (second_apart in_row j i lj (omega arith) (λ q. omega arith)) v

    pub spread_closed : {d e : List ℕ} → 0 < b → ScatteredRows m c s second b lanes b before d → PutRows (λ v. lane_at (replicate 32 0) 0 v) (2 * b + 2) (2 * b + 1 - second) (2 * b + 1) lanes d e
        → lanes ≤ 16 → ClosedRows m c s second b lanes before e
    spread_closed {d} {e} pos h p few = record {
      places = record {
        long = p.long ∙ h.long;
        new = λ c₀ q i v li lv. row_untouched p (omega (arith, third_low in_row pos)) (omega arith) (2 * i) (second_of second i) (omega arith) (second_low in_row i li)
            (third_even in_row pos i li) (third_second in_row pos i li) (λ x. omega arith) (last_second in_row pos i li) v ∙ h.new c₀ q i v li lv;
      };
      rest = λ v lv. p.new v lv ∙ zero_lane v (omega arith);
    }

pub spread_done : {m c : ℕ} {s : List ℕ} {second b lanes j n : ℕ} {before after : List ℕ} → ScatteredRows m c s second b lanes j before after → n ≤ j → ScatteredRows m c s second b lanes n before after
spread_done h l = record { long = h.long; new = λ c₀ q i v li lv. h.new c₀ q i v (omega arith) lv }

-- with the second number as it was computed
pub put_as : (second j : ℕ) {f : ℕ → Pair} {width first sec lanes : ℕ} {before after : List ℕ} → sec ≡ second_of second j → PutRows f width first sec lanes before after → PutRows f width first (second_of second j) lanes before after
put_as second j {f} {width} {first} {lanes = lanes} {before = before} {after = after} e h = subst (λ n. PutRows f width first n lanes before after) e h
