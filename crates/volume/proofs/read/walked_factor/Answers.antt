-- Between the ends of the stored half the pair at the place of the column's index, conjugated if that is the mate's; else as for any index.
use mathlib.Core.Path.{sym, ◌∙◌, ap}
use Rattle.numbers.specs.Value.{prime}
use Rattle.numbers.proofs.Values.{small_by}
use Rattle.cell.specs.Operations.{cell_group, cell_halves, triple_of}
use Rattle.cell.specs.Places.{all_below_at}
use Rattle.cell.proofs.PlaceLaws.{column_numbers}
use Rattle.volume.proofs.read.ReadingLaws.{own_column, mate_column}
use Rattle.volume.proofs.read.walked_factor.Goals as goal

pub between_value-x-requires-clause-j_value : goal.between_value-x-requires-clause-j_value
between_value-x-requires-clause-j_value c =
    let a = c.args in
    ap (all_below_at (prime a.m) a.volume.now) (sym (column_numbers (cell_group a.cell) (cell_halves a.cell) (triple_of a.j) (triple_of c.stored_column-i.result) c.stored_column-i.ensures.0)) ∙ c.requires.j_value

pub conjugate-requires : goal.conjugate-requires
conjugate-requires c =
    (c.requires.modulus.0, small_by _ _ c.between_value-x.ensures)

pub returns-then-j-cell : goal.returns-then-j-cell
returns-then-j-cell c =
    let a = c.args in
    own_column (cell_group a.cell) (cell_halves a.cell) a.m a.volume.now (triple_of a.j) (triple_of c.stored_column-i.result) c.stored_column-i.ensures.0 c.between_value-x.ensures c.if-j-cell.true

pub returns-else-j-cell : goal.returns-else-j-cell
returns-else-j-cell c =
    let a = c.args in
    mate_column (cell_group a.cell) (cell_halves a.cell) a.m a.volume.now (triple_of a.j) (triple_of c.stored_column-i.result) c.stored_column-i.ensures.0 c.between_value-x.ensures c.if-j-cell.false c.conjugate.ensures
