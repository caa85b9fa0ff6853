-- The refusals of a file's record and of the writer stand in the papers' order.
use Rattle.algebra.specs.Prelude.{ℕ, List}
use Rattle.algebra.specs.cells.Cell.{J}
use Rattle.refusals.specs.Orders.{Ordered, of_file_record, of_writer}
use Rattle.job.specs.declared.Job.{Job}
use Rattle.factor_file.specs.File.{judge_tests, write_tests}

pub record FileRefusals : Type 0 where
  pub recorded :
      (m group : ℕ) (lengths : J) (before : List J) (at : J) (x y : ℕ) →
      Ordered (judge_tests m group lengths before at x y) of_file_record
  pub writer : (j : Job) (v output : List ℕ) → Ordered (write_tests j v output) of_writer
