-- By the kind of the line: an alternating line, nothing, or a pair.
use mathlib.Core.Path.{sym, ◌∙◌}
use native.Mathlib.Omega.{arith}
use Rattle.cell.specs.Operations.{cell_group, cell_halves, triple_of}
use Rattle.cell.proofs.LineKinds.{other_kind}
use Rattle.cell.proofs.StoredFactors.{stored_inside, pair_reads, stored_pair, absent_value, absent_true, absent_false}
use Rattle.volume.proofs.stored.stored_factor.Goals as goal

pub pair_at-requires : goal.pair_at-requires
pair_at-requires c =
    let p = c.requires in
    let k = c.line_kind-kind.ensures in
    stored_inside p.0 p.1 (other_kind k.1 k.0 c.if-kind-eq3.false)

pub returns-then-is_absent : goal.returns-then-is_absent
returns-then-is_absent c m =
    let a = c.args in
    let k = c.line_kind-kind.ensures in
    let e = absent_true k.1 k.0 (sym c.is_absent.ensures ∙ c.if-is_absent.true) in
    absent_value (cell_halves a.cell) (omega (arith, c.requires.0.sizes.third.low)) m a.volume.now (triple_of a.j) (cell_group a.cell) e.0 e.1

pub returns-else-is_absent : goal.returns-else-is_absent
returns-else-is_absent c m =
    let k = c.line_kind-kind.ensures in
    let a = c.args in
    pair_reads (cell_group a.cell) (cell_halves a.cell) m a.volume.now (triple_of a.j)
    (stored_pair (cell_halves a.cell) (omega (arith, c.requires.0.sizes.third.low)) m a.volume.now (triple_of a.j) (cell_group a.cell) (other_kind k.1 k.0 c.if-kind-eq3.false) (absent_false k.1 k.0 (sym c.is_absent.ensures ∙ c.if-is_absent.false)) c.requires.1.l)
    c.pair_at.ensures
