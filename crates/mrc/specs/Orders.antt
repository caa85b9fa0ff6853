-- The refusals of a file for viewers stand in the papers' order.
use Rattle.algebra.specs.Prelude.{ℕ, List}
use Rattle.signed.specs.Integers.{ℤ}
use Rattle.refusals.specs.Orders.{Ordered, of_viewer_file}
use Rattle.cell.specs.declared.operations.UnitCell.{UnitCell}
use Rattle.mrc.specs.declared.parameters.CellParameters.{CellParameters}
use Rattle.mrc.specs.Mrc.{mrc_tests}

pub record MrcRefusals : Type 0 where
  pub ordered :
      (cell : UnitCell) (v : List ℤ) (parameters : CellParameters) (room : ℕ) →
      Ordered (mrc_tests cell v parameters room) of_viewer_file
