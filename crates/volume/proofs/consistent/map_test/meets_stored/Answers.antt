use Rattle.std.proofs.Common.{refl, sym, arith}
use Rattle.cell.specs.Operations.{cell_group, cell_halves}
use Rattle.cell.proofs.OperationLaws.{first_own, order_least}
use Rattle.algebra.proofs.cells.Passing.{members_second, members_next, members_done}
use Rattle.volume.proofs.consistent.TestLaws.{identity_point, plane_skipped}
use Rattle.volume.proofs.consistent.map_test.meets_stored.Goals as goal

pub loop-number-init : goal.loop-number-init
loop-number-init c = λ v x y.
    let known = c.requires.0.known in
    members_second (order_least c.args.cell.group known) (first_own c.args.cell.group known) (identity_point (cell_group c.args.cell) (cell_halves c.args.cell) v (x, y, c.args.z))

pub loop-number-preserved : goal.loop-number-preserved
loop-number-preserved c = λ v x y. members_next (c.loop-number.invariant v x y) (omega (arith, c.group_order-number-end.ensures)) c.group_operation-o.ensures
    (plane_skipped (cell_group c.args.cell) (cell_halves c.args.cell) v x y c.args.z _ c.point_image-q.ensures.0 (omega (arith, c.layer_count-planes.ensures, c.if-q-planes.false))) refl

pub returns : goal.returns
returns c = λ e v x y. sym (members_done (c.loop-number.invariant v x y) (omega (arith, c.group_order-number-end.ensures)))
