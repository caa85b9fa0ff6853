use Rattle.cell.specs.Operations.{cell_group, cell_halves, point_of}
use Rattle.cell.proofs.OperationLaws.{first_own, order_least}
use Rattle.algebra.proofs.cells.Passing.{members_second}
use Rattle.volume.proofs.consistent.TestLaws.{identity_point}
use Rattle.volume.proofs.consistent.map_test.point_agrees.Goals as goal

pub loop-number-init : goal.loop-number-init
loop-number-init c =
    let v = c.args.v.now in
    let known = v.whole.sizes.known in
    members_second (order_least v.cell.group known) (first_own v.cell.group known) (identity_point (cell_group v.cell) (cell_halves v.cell) v.volume.now (point_of c.args.p))
