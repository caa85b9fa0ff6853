-- The numbers and the pairs inside and outside a part of a list that was lent, and runs of stores against take, drop and append.
use mathlib.Core.Path.{◌≡◌, sym, ap, ◌∙◌, subst}
use mathlib.Core.Logic.{⊎_elim}
use mathlib.Core.List.{List, ◌++◌}
use Prim.Native.Nat.{ℕ, ◌+◌, ◌-◌, ◌*◌, ◌<◌, ◌≤◌}
use native.Mathlib.Omega.{arith}
use lib.ListN.{length, get_or, take, drop, replicate, length-append, length-drop, get_or-replicate, get_or-append}
use lib.Seq.{length-take-le, get_or-take, get_or-drop, get_or-append-add, take_at, drop_at}
use Rattle.numbers.specs.declared.Pair.{Pair}
use Rattle.slices.specs.Pairs.{at, puts, fills, tab}
use Rattle.numbers.specs.Bounds.{zero_pair}
use Rattle.slices.specs.Segments.{segment, set_segment, WholePairs}
use Rattle.slices.proofs.Pairs.{lt_or_ge, ext_pairs, is_tab, length_puts, at_puts, at_puts_other, at_fills, past_fills, length_fills, at_tab, length_tab}

-- a fact of a list at an index that is another number said otherwise
get_d_at : (l : List ℕ) (i j : ℕ) → i ≡ j → get_or l i 0 ≡ get_or l j 0
get_d_at l i j e = ap (λ (k : ℕ). get_or l k 0) e

-- ---- an append

get_or_append_past : (s t : List ℕ) (i : ℕ) → length s ≤ i → get_or (s ++ t) i 0 ≡ get_or t (i - length s) 0
get_or_append_past s t i h = get_d_at (s ++ t) i (length s + (i - length s)) (omega arith) ∙ get_or-append-add s t (i - length s) 0

-- ---- numbers

module _ (a e : ℕ) (l : List ℕ) (le : a ≤ e) (fits : e ≤ length l) where
  pub length_segment : length (segment a e l) ≡ e - a
  length_segment = length-take-le (e - a) (drop a l) (omega (arith, length-drop a l))

  pub get_or_segment : (i : ℕ) → i < e - a → get_or (segment a e l) i 0 ≡ get_or l (a + i) 0
  get_or_segment i h = get_or-take (e - a) (drop a l) i 0 h ∙ get_or-drop a l i 0

  length_front : length (take a l) ≡ a
  length_front = length-take-le a l (omega arith)

  pub get_or_before : (ys : List ℕ) (i : ℕ) → i < a → get_or (set_segment a e l ys) i 0 ≡ get_or l i 0
  get_or_before ys i h = get_or-append (take a l) (ys ++ drop (e - a) (drop a l)) 0 i (omega (arith, length_front)) ∙ get_or-take a l i 0 h

  get_or_from : (ys : List ℕ) (i : ℕ) → get_or (set_segment a e l ys) (a + i) 0 ≡ get_or (ys ++ drop (e - a) (drop a l)) i 0
  get_or_from ys i = get_d_at (set_segment a e l ys) (a + i) (length (take a l) + i) (omega (arith, length_front)) ∙ get_or-append-add (take a l) (ys ++ drop (e - a) (drop a l)) i 0

  module _ (ys : List ℕ) (long : length ys ≡ e - a) where
    pub length_set_segment : length (set_segment a e l ys) ≡ length l
    length_set_segment = simp (length-append, length-drop) (omega (arith, length_front))

    pub get_or_inside : (i : ℕ) → i < e - a → get_or (set_segment a e l ys) (a + i) 0 ≡ get_or ys i 0
    get_or_inside i h = get_or_from ys i ∙ get_or-append ys (drop (e - a) (drop a l)) 0 i (omega arith)

    pub get_d_after : (i : ℕ) → e ≤ i → get_or (set_segment a e l ys) i 0 ≡ get_or l i 0
    get_d_after i h =
        get_d_at (set_segment a e l ys) i (a + (i - a)) (omega arith)
        ∙ get_or_from ys (i - a)
        ∙ get_or_append_past ys (drop (e - a) (drop a l)) (i - a) (omega arith)
        ∙ get_or-drop (e - a) (drop a l) (i - a - length ys) 0
        ∙ get_or-drop a l (e - a + (i - a - length ys)) 0
        ∙ get_d_at l (a + (e - a + (i - a - length ys))) i (omega arith)

-- ---- pairs

-- two pairs are the same by their numbers
pair_at_lem : (s l : List ℕ) (j k : ℕ) → get_or s (2 * j) 0 ≡ get_or l (2 * k) 0 → get_or s (2 * j + 1) 0 ≡ get_or l (2 * k + 1) 0 → at s j ≡ at l k
unfolding at
pair_at_lem s l j k r i = λ x. record { re = r x; im = i x }

pub at_take : (n : ℕ) (l : List ℕ) (j : ℕ) → j < n → at (take (2 * n) l) j ≡ at l j
at_take n l j h = pair_at_lem (take (2 * n) l) l j j (get_or-take (2 * n) l (2 * j) 0 (omega arith)) (get_or-take (2 * n) l (2 * j + 1) 0 (omega arith))

pub at_drop : (n : ℕ) (l : List ℕ) (j : ℕ) → at (drop (2 * n) l) j ≡ at l (n + j)
at_drop n l j = pair_at_lem (drop (2 * n) l) l j (n + j)
    (get_or-drop (2 * n) l (2 * j) 0 ∙ get_d_at l (2 * n + 2 * j) (2 * (n + j)) (omega arith))
    (get_or-drop (2 * n) l (2 * j + 1) 0 ∙ get_d_at l (2 * n + (2 * j + 1)) (2 * (n + j) + 1) (omega arith))

pub at_append_left : (s t : List ℕ) (j : ℕ) → 2 * j + 1 < length s → at (s ++ t) j ≡ at s j
at_append_left s t j h = pair_at_lem (s ++ t) s j j (get_or-append s t 0 (2 * j) (omega arith)) (get_or-append s t 0 (2 * j + 1) h)

pub at_append_right : (s t : List ℕ) (n j : ℕ) → length s ≡ 2 * n → at (s ++ t) (n + j) ≡ at t j
at_append_right s t n j e = pair_at_lem (s ++ t) t (n + j) j
    (get_d_at (s ++ t) (2 * (n + j)) (length s + 2 * j) (omega arith) ∙ get_or-append-add s t (2 * j) 0)
    (get_d_at (s ++ t) (2 * (n + j) + 1) (length s + (2 * j + 1)) (omega arith) ∙ get_or-append-add s t (2 * j + 1) 0)

module _ {k n a e : ℕ} {l : List ℕ} (w : WholePairs k n a e l) where
  ordered : a ≤ e
  ordered = omega arith

  pub at_segment : (j : ℕ) → j < n → at (segment a e l) j ≡ at l (k + j)
  at_segment j h = pair_at_lem (segment a e l) l j (k + j)
      (get_or_segment a e l ordered w.inside (2 * j) (omega arith) ∙ get_d_at l (a + 2 * j) (2 * (k + j)) (omega arith))
      (get_or_segment a e l ordered w.inside (2 * j + 1) (omega arith) ∙ get_d_at l (a + (2 * j + 1)) (2 * (k + j) + 1) (omega arith))

  pub length_pairs : length (segment a e l) ≡ 2 * n
  length_pairs = omega (arith, length_segment a e l ordered w.inside)

  pub segment_tab : segment a e l ≡ tab n (λ j. at l (k + j))
  segment_tab = is_tab n (segment a e l) (λ j. at l (k + j)) length_pairs at_segment

  -- the pairs before the part, in it, and after it, once it has come back
  pub at_before : (ys : List ℕ) (j : ℕ) → j < k → at (set_segment a e l ys) j ≡ at l j
  at_before ys j h = pair_at_lem (set_segment a e l ys) l j j
      (get_or_before a e l ordered w.inside ys (2 * j) (omega arith))
      (get_or_before a e l ordered w.inside ys (2 * j + 1) (omega arith))

  module _ (ys : List ℕ) (long : length ys ≡ 2 * n) where
    counted : length ys ≡ e - a
    counted = omega arith

    pub length_set_pairs : length (set_segment a e l ys) ≡ length l
    length_set_pairs = length_set_segment a e l ordered w.inside ys counted

    pub at_inside : (j : ℕ) → j < n → at (set_segment a e l ys) (k + j) ≡ at ys j
    at_inside j h = pair_at_lem (set_segment a e l ys) ys (k + j) j
        (get_d_at (set_segment a e l ys) (2 * (k + j)) (a + 2 * j) (omega arith) ∙ get_or_inside a e l ordered w.inside ys counted (2 * j) (omega arith))
        (get_d_at (set_segment a e l ys) (2 * (k + j) + 1) (a + (2 * j + 1)) (omega arith) ∙ get_or_inside a e l ordered w.inside ys counted (2 * j + 1) (omega arith))

    pub at_after : (j : ℕ) → k + n ≤ j → at (set_segment a e l ys) j ≡ at l j
    at_after j h = pair_at_lem (set_segment a e l ys) l j j
        (get_d_after a e l ordered w.inside ys counted (2 * j) (omega arith))
        (get_d_after a e l ordered w.inside ys counted (2 * j + 1) (omega arith))

    -- the part that has come back, as a run of stores
    pub set_segment_puts : set_segment a e l ys ≡ puts (λ i. k + i) (at ys) n l
    set_segment_puts = ext_pairs (set_segment a e l ys) (puts (λ i. k + i) (at ys) n l) (length_set_pairs ∙ sym (length_puts (λ i. k + i) (at ys) n l)) (λ j. ⊎_elim
        (λ (b : j < k). at_before ys j b ∙ sym (at_puts_other (λ i. k + i) (at ys) n j l (λ i li q. omega arith)))
        (λ (g : k ≤ j). ⊎_elim
        (λ (b : j - k < n).
        let q : k + (j - k) ≡ j = omega arith in
        subst (λ (x : ℕ). at (set_segment a e l ys) x ≡ at (puts (λ i. k + i) (at ys) n l) x) q
        (at_inside (j - k) b ∙ sym (at_puts (λ i. k + i) (at ys) n (j - k) l b (omega arith) (λ i li ln z. omega arith))))
        (λ (b : n ≤ j - k). at_after j (omega arith) ∙ sym (at_puts_other (λ i. k + i) (at ys) n j l (λ i li q. omega arith)))
        (lt_or_ge (j - k) n))
        (lt_or_ge j k))

-- ---- the first n pairs

module _ (f : ℕ → Pair) (n : ℕ) where
  pub fills_split : (d : List ℕ) → 2 * n ≤ length d → fills f n d ≡ tab n f ++ drop (2 * n) d
  fills_split d b = ext_pairs (fills f n d) (tab n f ++ drop (2 * n) d)
      (simp (length_fills f n d, length-append, length_tab f n, length-drop) (omega arith))
      (λ k. ⊎_elim
      (λ (l : k < n). at_fills f n k d l b ∙ sym (at_append_left (tab n f) (drop (2 * n) d) k (omega (arith, length_tab f n)) ∙ at_tab f n k l))
      (λ (g : n ≤ k).
      let q : n + (k - n) ≡ k = omega arith in
      subst (λ (x : ℕ). at (fills f n d) x ≡ at (tab n f ++ drop (2 * n) d) x) q
      (past_fills f n (n + (k - n)) d (omega arith) ∙ sym (at_append_right (tab n f) (drop (2 * n) d) n (k - n) (length_tab f n) ∙ at_drop n d (k - n))))
      (lt_or_ge k n))

  pub take_fills : (d : List ℕ) → 2 * n ≤ length d → take (2 * n) (fills f n d) ≡ tab n f
  take_fills d b = ap (take (2 * n)) (fills_split d b) ∙ take_at (tab n f) (drop (2 * n) d) (2 * n) (length_tab f n)

  pub drop_fills : (d : List ℕ) → 2 * n ≤ length d → drop (2 * n) (fills f n d) ≡ drop (2 * n) d
  drop_fills d b = ap (drop (2 * n)) (fills_split d b) ∙ drop_at (tab n f) (drop (2 * n) d) (2 * n) (length_tab f n)

-- what `clear` leaves, in pairs
pub at_zeros : (n k : ℕ) → k < n → at (replicate (2 * n) 0) k ≡ zero_pair
unfolding at
at_zeros n k h = λ x. record { re = get_or-replicate (2 * n) (2 * k) 0 0 (omega arith) x; im = get_or-replicate (2 * n) (2 * k + 1) 0 0 (omega arith) x }

-- the first n pairs of src in place of those of d
pub copied : (src : List ℕ) (n : ℕ) (d : List ℕ) → 2 * n ≤ length src → 2 * n ≤ length d → take (2 * n) src ++ drop (2 * n) d ≡ fills (at src) n d
copied src n d s h =
    ap (λ (x : List ℕ). x ++ drop (2 * n) d) (is_tab n (take (2 * n) src) (at src) (length-take-le (2 * n) src s) (λ j l. at_take n src j l))
    ∙ sym (fills_split (at src) n d h)
