-- Lists of small numbers: read, stored to, and tested.
use mathlib.Core.Path.{◌≡◌, refl, sym, ap, subst}
use mathlib.Core.Logic.{⊎_elim}
use mathlib.Core.Bool.{Bool, true, false, ◌&&◌}
use mathlib.Core.List.{List, [], ◌∷◌}
use Prim.Native.Nat.{ℕ, zero, suc, ◌+◌, ◌-◌, ◌*◌, ◌<◌, ◌≤◌}
use native.Mathlib.Numerals.{add-one}
use native.Mathlib.Omega.{arith}
use lib.Dec.{ltb}
use lib.ListN.{length, get_or, set, take, drop, replicate, length-take, length-replicate, get_or-replicate, drop_of_length-le, get_or-eq_default}
use lib.Seq.{get_or-set_same, get_or-set_other, set_out, drop-cons, get_or-take, get_or-drop}
use borrow.Author.Tests.{lt-ltb, ltb-true}
use Rattle.numbers.specs.declared.Pair.{Pair}
use Rattle.numbers.specs.Bounds.{Small}
use Rattle.slices.specs.Pairs.{at, put, puts, tab, Below, all_below}
use Rattle.slices.specs.Segments.{segment}
use Rattle.slices.proofs.Pairs.{lt_or_ge, eq_or_ne, by_pairs, length_tab, at_tab}

pub small_at : (m : ℕ) (l : List ℕ) (j : ℕ) → Below m l → Small m (at l j)
unfolding at
small_at m l j h = record { re = h.each (2 * j); im = h.each (2 * j + 1) }

-- a pair that was read from a list of small numbers
pub small_of : {m : ℕ} {v : Pair} (l : List ℕ) (j : ℕ) → v ≡ at l j → Below m l → Small m v
small_of {m} {v} l j e h = subst (λ (w : Pair). Small m w) (sym e) (small_at m l j h)

-- the numbers of the list itself are enough, where the bound is not 0
pub below_each : (m : ℕ) (l : List ℕ) → 0 < m → ((k : ℕ) → k < length l → get_or l k 0 < m) → Below m l
below_each m l z h = record {
  each = λ k. ⊎_elim
      (λ (lt : k < length l). h k lt)
      (λ (ge : length l ≤ k). subst (λ (v : ℕ). v < m) (sym (get_or-eq_default l 0 ge)) z)
      (lt_or_ge k (length l));
}

pub below_at : (m n : ℕ) (l : List ℕ) → length l ≡ 2 * n → 0 < m → ((j : ℕ) → j < n → Small m (at l j)) → Below m l
unfolding at
below_at m n l e z h = below_each m l z (λ k lt. by_pairs (λ i. get_or l i 0 < m) n (λ j lj. (h j lj).re) (λ j lj. (h j lj).im) k (omega arith))

pub below_tab : (m n : ℕ) (f : ℕ → Pair) → 0 < m → ((j : ℕ) → j < n → Small m (f j)) → Below m (tab n f)
below_tab m n f z h = below_at m n (tab n f) (length_tab f n) z (λ j l. subst (λ (v : Pair). Small m v) (sym (at_tab f n j l)) (h j l))

-- ---- stores of small numbers keep a list of small numbers so

pub below_set : {m : ℕ} {l : List ℕ} (i v : ℕ) → Below m l → v < m → Below m (set l i v)
below_set {m} {l} i v h lt = record {
  each = λ k. ⊎_elim
      (λ (e : k ≡ i). ⊎_elim
      (λ (s : i < length l). subst (λ (x : ℕ). get_or (set l i v) x 0 < m) (sym e) (rw (get_or-set_same l i v 0 s) lt))
      (λ (s : length l ≤ i). rw (set_out l i v s) (h.each k))
      (lt_or_ge i (length l)))
      (λ n. rw (get_or-set_other l i k v 0 n) (h.each k))
      (eq_or_ne k i);
}

pub below_put : {m : ℕ} {l : List ℕ} {v : Pair} (j : ℕ) → Below m l → Small m v → Below m (put l j v)
unfolding put
below_put {m} {l} {v} j h s = below_set (2 * j + 1) v.im (below_set (2 * j) v.re h s.re) s.im

pub below_puts : {m : ℕ} {d : List ℕ} (p : ℕ → ℕ) (f : ℕ → Pair) (n : ℕ) → Below m d → ((j : ℕ) → j < n → Small m (f j)) → Below m (puts p f n d)
unfolding puts
below_puts p f zero h s = h
below_puts p f (suc n) h s = below_put (p n) (below_puts p f n h (λ j l. s j (omega arith))) (s n (omega arith))

-- ---- parts of a list of small numbers are such lists, and lists made of such

positive : {m : ℕ} {l : List ℕ} → Below m l → 0 < m
positive h = omega (arith, h.each 0)

pub below_take : {m : ℕ} {l : List ℕ} (n : ℕ) → Below m l → Below m (take n l)
below_take {m} {l} n h = below_each m (take n l) (positive h) (λ k lt. rw (get_or-take n l k 0 (omega (arith, length-take n l))) (h.each k))

pub below_drop : {m : ℕ} {l : List ℕ} (n : ℕ) → Below m l → Below m (drop n l)
below_drop {m} {l} n h = record { each = λ k. rw (get_or-drop n l k 0) (h.each (n + k)) }

pub below_replicate : {m : ℕ} (n v : ℕ) → v < m → Below m (replicate n v)
below_replicate {m} n v h = below_each m (replicate n v) (omega arith) (λ k lt. rw (get_or-replicate n k v 0 (omega (arith, length-replicate {A = ℕ} n v))) h)

pub below_segment : {m : ℕ} {l : List ℕ} (a e : ℕ) → Below m l → Below m (segment a e l)
below_segment a e h = below_take (e - a) (below_drop a h)

-- ---- the test

-- a scan has come to number i: the numbers before it have answered b
pub all_below_next : (m : ℕ) (l : List ℕ) (b : Bool) (i : ℕ) → i < length l → (b && all_below m (drop i l)) ≡ ((b && ltb (get_or l i 0) m) && all_below m (drop (i + 1) l))
unfolding all_below
all_below_next m l true i h = rw (add-one, drop-cons l i 0) refl
all_below_next m l false i h = refl

pub all_below_end : (m : ℕ) (l : List ℕ) (b : Bool) (i : ℕ) → length l ≤ i → (b && all_below m (drop i l)) ≡ b
unfolding all_below
all_below_end m l true i h = ap (all_below m) (drop_of_length-le l h)
all_below_end m l false i h = refl

below_head : {m x : ℕ} {l : List ℕ} → Below m (x ∷ l) → x < m
below_head h = h.each zero

below_tail : {m x : ℕ} {l : List ℕ} → Below m (x ∷ l) → Below m l
below_tail h = record { each = λ k. h.each (suc k) }

below_cons : {m x : ℕ} {l : List ℕ} → x < m → Below m l → Below m (x ∷ l)
below_cons {m = m} {x = x} {l = l} h t = record { each = go }
  where
    go : (k : ℕ) → get_or (x ∷ l) k 0 < m
    go zero = h
    go (suc k) = t.each k

pub all_below_below : (m : ℕ) (l : List ℕ) → Below m l → all_below m l ≡ true
unfolding all_below
all_below_below m [] h = refl
all_below_below m (x ∷ l) h = rw (lt-ltb x m (below_head h)) (all_below_below m l (below_tail h))

pub below_all_below : (m : ℕ) (l : List ℕ) → 0 < m → all_below m l ≡ true → Below m l
unfolding all_below
below_all_below m [] z e = record { each = λ k. z }
below_all_below m (x ∷ l) z e = below_cons (ltb-true x m (left (ltb x m) (all_below m l) e)) (below_all_below m l z (right (ltb x m) (all_below m l) e))
  where
    left : (a b : Bool) → (a && b) ≡ true → a ≡ true
    left true b q = refl
    left false b q = q

    right : (a b : Bool) → (a && b) ≡ true → b ≡ true
    right true b q = q
    right false b q = cc
