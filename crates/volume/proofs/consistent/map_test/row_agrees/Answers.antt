-- The points agree, and the row ends with two zeros: the pair after its last point.
use native.Mathlib.Omega.{arith}
use Rattle.cell.specs.Operations.{cell_group, cell_halves}
use Rattle.algebra.proofs.cells.Passing.{both_passed}
use Rattle.cell.proofs.StoredFactors.{pair_inside}
use Rattle.volume.proofs.consistent.TestLaws.{row_ends_lem}
use Rattle.volume.proofs.consistent.map_test.row_agrees.Goals as goal

pub pair_at-requires : goal.pair_at-requires
pair_at-requires c = pair_inside c.args.v.now.whole _ _ _ c.requires.0 c.requires.1 (omega arith)

pub returns-then-points_agree : goal.returns-then-points_agree
returns-then-points_agree c =
    let a = c.args in
    let v = a.v.now in
    both_passed c.points_agree.ensures c.if-points_agree.true
    (row_ends_lem (cell_group v.cell) (cell_halves v.cell) v.volume.now a.z a.x c.pair_at.ensures c.is_zero.ensures)
