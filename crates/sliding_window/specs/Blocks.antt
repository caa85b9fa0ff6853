-- How the windows are worked, w of them at a time. The w windows that start in a block of w entries are each made of
-- the entries from their start to the block's end, and of those from the block's last one on. The best of the first are
-- found from the block's end down, those of the second upward, so that an entry costs three comparisons whatever w is.
use Rattle.algebra.specs.Prelude.{Bool, ℕ, List, length, get_or}
use Rattle.std.specs.Prelude.{ℤ, ◌≡◌, ◌+◌, ◌<◌, ◌≤◌}
use Rattle.sliding_window.specs.FirstBest.{BestAmong}

-- the block of w entries from start on, worked from its end down to entry t: the best of each stretch from there to the
-- block's end
pub record Suffixes (greatest : Bool) (run : List ℤ) (start w t : ℕ) (best : List ℕ) : Type 0 where
  pub low : t < w
  pub long : length best ≡ 64
  pub each : (k : ℕ) → t ≤ k → k < w → BestAmong greatest run (start + k) (start + w) (get_or best k 0)

-- a block, and how many of its windows lie inside the run
pub record Block (run : List ℤ) (start w size : ℕ) : Type 0 where
  pub positive : 1 ≤ w
  pub short : w ≤ 64
  pub some : size ≤ w
  pub inside : start + size + w ≤ length run + 1
