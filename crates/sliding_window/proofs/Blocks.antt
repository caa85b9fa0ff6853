-- A block of windows: the stretches that end with it, from its end down; what lies from its last entry on, upward; and the windows, made of both.
use mathlib.Core.Path.{◌≡◌, refl, sym, ◌∙◌, subst}
use mathlib.Core.Bool.{Bool, true, false}
use mathlib.Core.List.{List}
use Prim.Native.Nat.{ℕ, ◌+◌, ◌-◌, ◌≤◌, ◌<◌}
use native.Mathlib.Omega.{arith}
use lib.ListN.{length, get_or, set, length-set}
use lib.Seq.{get_or-set_same, get_or-set_other}
use lib.Dec.{eqb}
use lib.IntN.{ℤ}
use borrow.Author.Tests.{eqb-true, eqb-false}
use Rattle.sliding_window.specs.Window.{better_of, best_of}
use Rattle.sliding_window.specs.FirstBest.{BestAmong}
use Rattle.sliding_window.specs.Blocks.{Suffixes}
use Rattle.sliding_window.proofs.FirstBest.{best_one, best_joined, best_is}

module _ {g : Bool} {run : List ℤ} {start w : ℕ} where
  -- ---- from the end down

  pub suffixes_start : (best : List ℕ) → 1 ≤ w → w ≤ 64 → length best ≡ 64 → Suffixes g run start w (w - 1) (set best (w - 1) (start + (w - 1)))
  suffixes_start best l h long = record { low = omega arith; long = length-set best (w - 1) v ∙ long; each = λ k a b. subst Its (only k a b) (rw (get_or-set_same best (w - 1) v 0 (omega arith)) (best_one v (omega arith))) }
    where
      v : ℕ
      v = start + (w - 1)

      Its : ℕ → Type 0
      Its k = BestAmong g run (start + k) (start + w) (get_or (set best (w - 1) v) k 0)

      only : (k : ℕ) → w - 1 ≤ k → k < w → w - 1 ≡ k
      only k a b = omega arith

  pub suffixes_next : (best : List ℕ) (t : ℕ) → Suffixes g run start w t best → 0 < t → w ≤ 64 → Suffixes g run start w (t - 1) (set best (t - 1) (better_of g run (start + (t - 1)) (get_or best t 0)))
  suffixes_next best t e p h = record { low = omega (arith, e.low); long = length-set best (t - 1) v ∙ e.long; each = λ k a b. by k a b (eqb k (t - 1)) refl }
    where
      v : ℕ
      v = better_of g run (start + (t - 1)) (get_or best t 0)

      Its : ℕ → Type 0
      Its k = BestAmong g run (start + k) (start + w) (get_or (set best (t - 1) v) k 0)

      joined : BestAmong g run (start + (t - 1)) (start + w) v
      joined = best_joined (best_one (start + (t - 1)) {e = start + t} (omega arith)) (e.each t (omega arith) e.low) (omega arith) (omega arith) (omega (arith, e.low))

      by : (k : ℕ) → t - 1 ≤ k → k < w → (b : Bool) → eqb k (t - 1) ≡ b → Its k
      by k a b true q = subst Its (sym (eqb-true k (t - 1) q)) (rw (get_or-set_same best (t - 1) v 0 (omega (arith, e.low, e.long))) joined)
      by k a b false q = rw (get_or-set_other best (t - 1) k v 0 (eqb-false k (t - 1) q)) (e.each k (omega (arith, eqb-false k (t - 1) q)) b)

  -- ---- the windows: r entries behind the block's last one have been looked at, so far that it has come to window r

  pub window_is : (r : ℕ) {best : List ℕ} {ahead : ℕ} → Suffixes g run start w 0 best → r < w → BestAmong g run (start + (w - 1)) (start + (w - 1) + (r + 1 - 1) + 1) ahead → better_of g run (get_or best r 0) ahead ≡ best_of g run (start + r) w
  window_is r e l h = best_is w (omega arith) (omega arith) (best_joined (e.each r (omega arith) l) h (omega arith) (omega arith) (omega arith))

-- one entry more; before window 0 there is the last entry alone
pub ahead_next : {g : Bool} {run : List ℤ} (s r : ℕ) {ahead : ℕ} → BestAmong g run s (s + (r - 1) + 1) ahead → BestAmong g run s (s + (r + 1 - 1) + 1) (better_of g run ahead (s + r))
ahead_next s r h = best_joined h (best_one (s + r) (omega arith)) (omega arith) (omega arith) (omega arith)
