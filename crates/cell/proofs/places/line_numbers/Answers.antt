-- The whole line, the ends of the half line, or its middle.
use mathlib.Core.Path.{sym, ◌∙◌}
use Rattle.cell.proofs.LineKinds.{is_kind, other_kind}
use Rattle.cell.proofs.PlaceLaws.{plain_found, middle_found}
use Rattle.cell.proofs.places.line_numbers.Goals as goal

pub returns-then-kind-eq0 : goal.returns-then-kind-eq0
returns-then-kind-eq0 c =
    let p = c.requires in
    let e = c.pair_numbers.ensures in
    plain_found p.0 _ p.1 p.2 _ (is_kind c.line_kind-kind.ensures.1 c.if-kind-eq0.true) e.0 e.1

pub returns-else-is_end : goal.returns-else-is_end
returns-else-is_end c =
    let p = c.requires in
    let e = c.pair_numbers-else-is_end.ensures in
    let kind = c.line_kind-kind.ensures in
    middle_found p.0 _ p.1 p.2 _ (other_kind kind.1 kind.0 c.if-kind-eq0.false) (sym c.is_end.ensures ∙ c.if-is_end.false) c.folded.ensures e.0 e.1
