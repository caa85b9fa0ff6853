use Rattle.std.proofs.Common.{List, ℕ, ℤ}
use Rattle.cell.specs.declared.operations.UnitCell.{UnitCell}
use Rattle.mrc.specs.Ranges.{of_row}
use Rattle.mrc.proofs.Densities.{spans_first, spans_next}
use Rattle.mrc.proofs.ranges.plane_range.Goals as goal

abbrev row : UnitCell → List ℤ → (z : ℕ) → (ℤ → ℤ → ℤ) → (x : ℕ) → ℤ
row cell map z pick x = of_row cell map z x pick

pub loop-x-init : goal.loop-x-init
loop-x-init c = spans_first (row c.args.cell c.args.map.now c.args.z) c.stored_row-range.ensures

pub loop-x-preserved : goal.loop-x-preserved
loop-x-preserved c = spans_next c.loop-x.x (row c.args.cell c.args.map.now c.args.z) c.loop-x.invariant c.stored_row.ensures c.joined-range.ensures
