-- The refusals of a map's text stand in the order of the writer's.
use Rattle.algebra.specs.Prelude.{ℕ, List}
use Rattle.refusals.specs.Orders.{Ordered, of_text}
use Rattle.job.specs.declared.Job.{Job}
use Rattle.printing.specs.Text.{text_tests}

pub record TextRefusals : Type 0 where
  pub ordered : (j : Job) (v : List ℕ) (room : ℕ) → Ordered (text_tests j v room) of_text
