-- The refusals of a file's shape stand in the papers' order.
use Rattle.algebra.specs.Prelude.{ℕ, List}
use Rattle.refusals.specs.Orders.{Ordered, of_file_shape}
use Rattle.file_format.specs.Format.{shape_tests}

pub record ShapeRefusals : Type 0 where
  pub ordered : (file : List ℕ) → Ordered (shape_tests file) of_file_shape
