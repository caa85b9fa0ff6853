-- By the line of the stored column.
use mathlib.Core.Path.{sym, subst}
use Rattle.cell.specs.Volume.{volume_length}
use Rattle.cell.specs.Operations.{cell_group, cell_halves}
use Rattle.cell.specs.Places.{IsRun}
use Rattle.cell.proofs.PlaceLaws.{column_numbers}
use Rattle.cell.proofs.places.factor_numbers.Goals as goal

pub returns : goal.returns
returns c =
    let a = c.args in
    let g = cell_group a.cell in
    subst (λ p. IsRun (volume_length g (cell_halves a.cell)) p c.line_numbers.result) (sym (column_numbers g _ _ _ c.stored_column.ensures.0)) c.line_numbers.ensures
