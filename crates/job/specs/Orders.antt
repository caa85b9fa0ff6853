-- The refusals of an opening and of every call of a job stand in the papers' order; and what 26 says.
use Rattle.algebra.specs.Prelude.{ℕ, List}
use Rattle.std.specs.Prelude.{◌⊎◌, ◌≡◌, ◌↔◌}
use Rattle.algebra.specs.cells.Cell.{J}
use Rattle.refusals.specs.Orders.{Ordered, RefusedUnless, of_opening, of_record, of_synthesis, of_analysis, of_point}
use Rattle.refusals.specs.Orders.{of_factor, of_map_power, of_factor_power, of_turn}
use Rattle.job.specs.declared.Job.{Job}
use Rattle.job.specs.Job.{Header, open_tests, open_step, not_opened, record_tests}
use Rattle.job.specs.TestSteps.{synthesis_tests, analysis_tests, point_tests, factor_tests, map_power_tests}
use Rattle.job.specs.TestSteps.{factor_power_tests}
use Rattle.job.specs.Turns.{turn_tests}

pub record JobRefusals : Type 0 where
  pub opening : (m : ℕ) (h : Header) (kind : ℕ) (v : List ℕ) → Ordered (open_tests m h kind v) of_opening
  pub recording : (j : Job) (at : J) (x y : ℕ) (v : List ℕ) → Ordered (record_tests j at x y v) of_record
  pub synthesis : (j : Job) (v : List ℕ) (scratch : ℕ) → Ordered (synthesis_tests j v scratch) of_synthesis
  pub analysis : (j : Job) (v : List ℕ) (scratch : ℕ) → Ordered (analysis_tests j v scratch) of_analysis
  pub point : (j : Job) (x : J) (v : List ℕ) → Ordered (point_tests j x v) of_point
  pub factor : (j : Job) (at : J) (v : List ℕ) → Ordered (factor_tests j at v) of_factor
  pub map_power_lem : (j : Job) (v : List ℕ) → Ordered (map_power_tests j v) of_map_power
  pub factor_power_lem : (j : Job) (v : List ℕ) → Ordered (factor_power_tests j v) of_factor_power
  pub turn : (j : Job) (n : ℕ) (v : List ℕ) (scratch : ℕ) → Ordered (turn_tests j n v scratch) of_turn
  -- 26 exactly for a modulus that is neither 1 nor 2
  pub modulus :
      (m : ℕ) (h : Header) (kind : ℕ) (v : List ℕ) →
      RefusedUnless (λ n. not_opened n 0) of_opening 26 (open_step m h kind v).answer ((m ≡ 1) ⊎ (m ≡ 2))
