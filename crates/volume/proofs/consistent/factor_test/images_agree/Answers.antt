use Rattle.cell.specs.Operations.{cell_group, cell_halves, triple_of}
use Rattle.cell.proofs.OperationLaws.{first_full}
use Rattle.algebra.proofs.cells.Passing.{members_second}
use Rattle.volume.proofs.consistent.TestLaws.{identity_agrees}
use Rattle.volume.proofs.consistent.factor_test.images_agree.Goals as goal

pub loop-number-init : goal.loop-number-init
loop-number-init c =
    let first = first_full c.args.r.now.cell.group c.args.r.now.whole.sizes.known in
    members_second first.0 first.1 (identity_agrees (cell_group c.args.r.now.cell) (cell_halves c.args.r.now.cell) c.args.r.now.m c.args.r.now.volume.now (triple_of c.args.j))
