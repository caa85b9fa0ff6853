use Rattle.std.proofs.Common.{ap, ◌∙◌, arith}
use Rattle.cell.specs.Operations.{cell_halves, triple_of}
use Rattle.cell.proofs.OperationLaws.{first_full}
use Rattle.algebra.proofs.cells.Passing.{members_second, members_next, members_stop, members_done}
use Rattle.factor_file.specs.File.{no_later}
use Rattle.factor_file.proofs.orbits.PlaceOrder.{identity_no_later}
use Rattle.factor_file.proofs.orbits.none_before.Goals as goal

pub loop-number-init : goal.loop-number-init
loop-number-init c =
    let first = first_full c.args.cell.group c.requires.0.known in
    members_second first.0 first.1 (identity_no_later (cell_halves c.args.cell) (triple_of c.args.j))

pub operation_at-o-requires : goal.operation_at-o-requires
operation_at-o-requires c = (c.requires.0.known, omega (arith, c.operation_count-count.ensures))

pub loop-number-preserved : goal.loop-number-preserved
loop-number-preserved c =
    members_next c.loop-number.invariant (omega (arith, c.operation_count-count.ensures)) c.operation_at-o.ensures (c.no_later.ensures ∙ ap (no_later (triple_of c.args.j)) c.image.ensures.0) c.if-not-no_later.false

pub returns-then-not-no_later : goal.returns-then-not-no_later
returns-then-not-no_later c =
    members_stop c.loop-number.invariant (omega (arith, c.operation_count-count.ensures)) c.operation_at-o.ensures (c.no_later.ensures ∙ ap (no_later (triple_of c.args.j)) c.image.ensures.0) c.if-not-no_later.true

pub returns : goal.returns
returns c = members_done c.loop-number.invariant (omega (arith, c.operation_count-count.ensures))
