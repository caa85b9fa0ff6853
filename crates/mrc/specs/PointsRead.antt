-- What a file for viewers depends on: the numbers of the cell's points. Those behind the rows are not read.
use Rattle.std.specs.Prelude.{◌≡◌, ◌<◌}
use Rattle.algebra.specs.Prelude.{ℕ, List, length}
use Rattle.signed.specs.Integers.{ℤ}
use Rattle.cell.specs.declared.operations.UnitCell.{UnitCell}
use Rattle.cell.specs.Operations.{cell_group, cell_halves}
use Rattle.combined.specs.CombinedMap.{count_of}
use Rattle.mrc.specs.declared.parameters.CellParameters.{CellParameters}
use Rattle.mrc.specs.Mrc.{mrc_step}

-- two maps that have the same number at every point of the cell
abbrev pub SameCell : UnitCell → (v w : List ℤ) → Type 0
SameCell cell v w =
    (x y z : ℕ) → x < cell.n1 → y < cell.n2 → z < cell.n3 →
    count_of (cell_group cell) (cell_halves cell) v (x, y, z)
    ≡ count_of (cell_group cell) (cell_halves cell) w (x, y, z)

-- they give the same answer and the same bytes
abbrev pub ReadsPointsAlone : Type 0
ReadsPointsAlone =
    (cell : UnitCell) (v w : List ℤ) (parameters : CellParameters) (output : List ℕ) →
    length v ≡ length w →
    SameCell cell v w →
    mrc_step cell v parameters output ≡ mrc_step cell w parameters output
