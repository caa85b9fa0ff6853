-- What the best place of a window is, without the way in which it is found.
use Rattle.algebra.specs.Prelude.{Bool, true, false, ℕ, List, length, get_or}
use Rattle.std.specs.Prelude.{ℤ, pos, ◌≡◌, ◌+◌, ◌<◌, ◌≤◌}
use Rattle.output.specs.Output.{Filled.written}
use Rattle.sliding_window.specs.Window.{beats, score, best_of, Extremes, window_step}

-- b is the first place of the best score among the places from s on and before e: no score there beats it, and it beats
-- every earlier one
pub record BestAmong (greatest : Bool) (run : List ℤ) (s e b : ℕ) : Type 0 where
  pub from : s ≤ b
  pub before : b < e
  pub unbeaten : (k : ℕ) → s ≤ k → k < e → beats greatest (score run k) (score run b) ≡ false
  pub earlier : (k : ℕ) → s ≤ k → k < b → beats greatest (score run b) (score run k) ≡ true

abbrev pub FirstBest : Type 0
FirstBest = (greatest : Bool) (run : List ℤ) (s w : ℕ) →
    1 ≤ w →
    BestAmong greatest run s (s + w) (best_of greatest run s w)

-- ---- the same of what a call leaves that has answered that it wrote n windows

-- place j of two outputs is that of the entries j to j + w - 1, all of which the run has
pub record WindowAt (greatest : Bool) (run : List ℤ) (w j : ℕ) (scores : List ℤ)
    (places : List ℕ) : Type 0 where
  pub inside : j + w ≤ length run
  pub place : BestAmong greatest run j (j + w) (get_or places j 0)
  pub its_score : get_or scores j (pos 0) ≡ score run (get_or places j 0)

-- every w neighbouring entries are one of the n windows, and each window has its places
pub record Windows (run : List ℤ) (w n : ℕ) (left : Extremes) : Type 0 where
  pub every : (j : ℕ) → j + w ≤ length run → j < n
  pub of_least : (j : ℕ) → j < n → WindowAt false run w j left.least left.place_of_least
  pub of_greatest : (j : ℕ) → j < n → WindowAt true run w j left.greatest left.place_of_greatest

abbrev pub EachWindow : Type 0
EachWindow = (run : List ℤ) (w : ℕ) (outputs : Extremes) (n : ℕ) →
    let done = window_step run w outputs in
    done.answer ≡ written n →
    Windows run w n done.outputs
