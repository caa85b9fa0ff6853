-- Alternating lines in lanes: the loops over a block, and the places of a batch one after the other.
use mathlib.Core.Path.{◌≡◌, refl, sym, ◌∙◌, ap, subst}
use mathlib.Core.Bool.{cond}
use mathlib.Core.Logic.{◌≢◌, ⊎_elim}
use mathlib.Core.List.{List}
use Prim.Native.Nat.{ℕ, ◌+◌, ◌*◌, ◌-◌, ◌<◌, ◌≤◌}
use native.Mathlib.Nat.{not-suc-le-zero}
use native.Mathlib.Omega.{arith}
use borrow.Author.Tests.{le-leb, lt-leb}
use lib.ListN.{get_or, set, length, length-set}
use lib.Seq.{get_or-set_same, get_or-set_other}
use Rattle.algebra.proofs.ring.Laws.{along}
use Rattle.numbers.specs.declared.Pair.{Pair}
use Rattle.slices.proofs.Pairs.{eq_or_ne}
use Rattle.batches.specs.Lanes.{lane_at}
use Rattle.batches.specs.Copying.{PutBlock}
use Rattle.folded_batches.specs.AlternatingLanes.{BlockOf, Filled, low_pair, high_pair, odd_place, short_pair}

below : {n j : ℕ} → j < n + 1 → j ≢ n → j < n
below l other = omega (arith, other)

-- ---- a block, lane by lane

-- one that is f in each lane is g, where they agree
pub block_by : {f g : ℕ → Pair} {y : List ℕ} → ((v : ℕ) → f v ≡ g v) → length y ≡ 32 → ((v : ℕ) → v < 16 → lane_at y 0 v ≡ f v) → BlockOf g 16 y
block_by e long each = record { long = long; each = λ v l. each v l ∙ e v }

-- ---- a batch, place by place

module _ {P : (j v : ℕ) → Pair → Type 0} where
  pub filled_start : {d : List ℕ} → Filled P 0 d
  filled_start = record { each = λ j v l. absurd (not-suc-le-zero l) }

  pub filled_next : {n : ℕ} {y d e : List ℕ} → Filled P n d → PutBlock y 0 n d e → ((v : ℕ) → v < 16 → P n v (lane_at y 0 v)) → Filled P (n + 1) e
  filled_next {n} {y} {d} {e} h p new = record {
    each = λ j v lj lv. ⊎_elim
        (λ (q : j ≡ n). subst (λ k. P k v (lane_at e k v)) (sym q) (subst (P n v) (sym (p.new v lv)) (new v lv)))
        (λ (other : j ≢ n). subst (P j v) (sym (p.kept j v lv other)) (h.each j v (below lj other) lv))
        (eq_or_ne j n);
  }

-- ---- the first numbers of a block, one by one

-- the first n numbers are g's, and the others as they were
pub record Numbers (g : ℕ → ℕ) (n : ℕ) (before after : List ℕ) : Type 0 where
  pub long : length after ≡ 32
  pub new : (k : ℕ) → k < n → get_or after k 0 ≡ g k
  pub kept : (k : ℕ) → n ≤ k → get_or after k 0 ≡ get_or before k 0

module _ {g : ℕ → ℕ} where
  pub numbers_start : {y : List ℕ} → length y ≡ 32 → Numbers g 0 y y
  numbers_start e = record { long = e; new = λ k l. absurd (not-suc-le-zero l); kept = λ k l. refl }

  pub numbers_next : {v x : ℕ} {y z : List ℕ} → Numbers g v y z → v < 16 → x ≡ g v → Numbers g (v + 1) y (set z v x)
  numbers_next {v} {x} {y} {z} h l e = record {
    long = length-set z v x ∙ h.long;
    new = λ k lk. ⊎_elim
        (λ (q : k ≡ v). ap (λ i. get_or (set z v x) i 0) q ∙ get_or-set_same z v x 0 (omega (arith, h.long)) ∙ e ∙ ap g (sym q))
        (λ (other : k ≢ v). get_or-set_other z v k x 0 other ∙ h.new k (below lk other))
        (eq_or_ne k v);
    kept = λ k lk. get_or-set_other z v k x 0 (λ q. omega arith) ∙ h.kept k (omega arith);
  }

pub first_re : (l : List ℕ) (v : ℕ) → get_or l v 0 ≡ (lane_at l 0 v).re
unfolding lane_at
first_re l v = along (λ k. get_or l k 0) v (32 * 0 + v) (omega arith)

-- ---- the place of a turn of the short line

module _ (o A : ℕ) (line : List ℕ) (t v : ℕ) where
  pub short_low : 2 * t + 1 ≤ A → low_pair o (lane_at line (2 * t) v) (lane_at line (2 * t + 1) v) ≡ short_pair o A line t v
  unfolding short_pair
  short_low l = sym (ap (λ b. cond b (low_pair o (lane_at line (2 * t) v) (lane_at line (2 * t + 1) v)) (high_pair o (lane_at line (2 * (A - t)) v) (lane_at line (2 * (A - t) - 1) v))) (le-leb (2 * t + 1) A l))

  pub short_high : A < 2 * t + 1 → high_pair o (lane_at line (2 * (A - t)) v) (lane_at line (2 * (A - t) - 1) v) ≡ short_pair o A line t v
  unfolding short_pair
  short_high l = sym (ap (λ b. cond b (low_pair o (lane_at line (2 * t) v) (lane_at line (2 * t + 1) v)) (high_pair o (lane_at line (2 * (A - t)) v) (lane_at line (2 * (A - t) - 1) v))) (lt-leb (2 * t + 1) A l))

module _ (A t : ℕ) where
  pub odd_low : 2 * t + 1 ≤ A → 2 * t + 1 ≡ odd_place A t
  unfolding odd_place
  odd_low l = sym (ap (λ b. cond b (2 * t + 1) (2 * (A - t) - 1)) (le-leb (2 * t + 1) A l))

  pub odd_high : A < 2 * t + 1 → 2 * (A - t) - 1 ≡ odd_place A t
  unfolding odd_place
  odd_high l = sym (ap (λ b. cond b (2 * t + 1) (2 * (A - t) - 1)) (lt-leb (2 * t + 1) A l))
