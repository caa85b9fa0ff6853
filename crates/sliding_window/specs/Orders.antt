-- The refusals of the window's call stand in the papers' order; and what 34, the first check, says.
use Rattle.algebra.specs.Prelude.{ℕ, List}
use Rattle.std.specs.Prelude.{ℤ, ◌≡◌, ◌↔◌, ◌≤◌}
use Rattle.refusals.specs.Orders.{Ordered, of_window}
use Rattle.output.specs.Output.{Filled.not_written}
use Rattle.sliding_window.specs.Window.{Extremes, window_tests_of, window_step}

pub record WindowRefusals : Type 0 where
  pub ordered : (run : List ℤ) (w : ℕ) (outputs : Extremes) → Ordered (window_tests_of run w outputs) of_window
  -- 34 exactly for a window that is not of 1 to 64 entries, whatever else is wrong
  pub size :
      (run : List ℤ) (w : ℕ) (outputs : Extremes) →
      ((window_step run w outputs).answer ≡ not_written 34) ↔ ((1 ≤ w) × (w ≤ 64) → ⊥)
