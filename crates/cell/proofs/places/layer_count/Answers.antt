-- As many planes as pairs in the line along l at h = 0, by its kind.
use Rattle.cell.specs.Operations.{cell_group}
use Rattle.cell.proofs.LineKinds.{is_kind, other_kind, plain_layers, alternating_layers, mirrored_layers}
use Rattle.cell.proofs.places.layer_count.Goals as goal

pub returns-then-kind-eq0 : goal.returns-then-kind-eq0
returns-then-kind-eq0 c =
    plain_layers (cell_group c.args.cell) 0 _ (is_kind c.line_kind-kind.ensures.1 c.if-kind-eq0.true)

pub returns-then-kind-eq3 : goal.returns-then-kind-eq3
returns-then-kind-eq3 c =
    alternating_layers (cell_group c.args.cell) 0 _ (is_kind c.line_kind-kind.ensures.1 c.if-kind-eq3.true)

pub returns-else-kind-eq3 : goal.returns-else-kind-eq3
returns-else-kind-eq3 c =
    let e = c.line_kind-kind.ensures in
    mirrored_layers (cell_group c.args.cell) 0 _ (other_kind e.1 e.0 c.if-kind-eq0.false) (other_kind e.1 e.0 c.if-kind-eq3.false)
