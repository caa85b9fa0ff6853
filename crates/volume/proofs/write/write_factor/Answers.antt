-- By the kind of the line: an alternating line, the end of an antisymmetric one, or a pair.
use native.Mathlib.Omega.{arith}
use Rattle.cell.proofs.LineKinds.{is_kind, other_kind, stored_layer, alternating_half}
use Rattle.cell.proofs.PlaceLaws.{pair_inside}
use Rattle.cell.proofs.StoredFactors.{absent_true, absent_false}
use mathlib.Core.Path.{sym, ◌∙◌}
use Rattle.cell.specs.Operations.{cell_group}
use Rattle.volume.proofs.write.WrittenFactors.{alternating_written, factor_written, absent_written}
use Rattle.volume.proofs.write.write_factor.Goals as goal

pub write_alternating-requires-clause-sizes : goal.write_alternating-requires-clause-sizes
write_alternating-requires-clause-sizes c =
    let e = is_kind c.line_kind-kind.ensures.1 c.if-kind-eq3.true in
    (c.requires.sizes.0, e, c.requires.sizes.1, c.requires.sizes.2, alternating_half (cell_group c.args.cell) c.args.j.h e c.requires.sizes.3)

pub store-requires : goal.store-requires
store-requires c =
    let p = c.requires.sizes in
    let k = c.line_kind-kind.ensures in
    omega (arith, c.requires.volume_len, pair_inside p.0 _ p.1 p.2 _ (stored_layer (cell_group c.args.cell) c.args.j.h _ _ (other_kind k.1 k.0 c.if-kind-eq3.false) p.3))

pub returns-then-kind-eq3 : goal.returns-then-kind-eq3
returns-then-kind-eq3 c =
    alternating_written _ _ _ _ _ (is_kind c.line_kind-kind.ensures.1 c.if-kind-eq3.true) c.write_alternating.ensures

pub returns-then-not-is_absent : goal.returns-then-not-is_absent
returns-then-not-is_absent c =
    let k = c.line_kind-kind.ensures in
    factor_written _ _ _ _ _ (other_kind k.1 k.0 c.if-kind-eq3.false) (absent_false k.1 k.0 (sym c.is_absent.ensures ∙ c.if-not-is_absent.true)) c.pair_place.ensures.0 c.store.ensures

pub returns-else-not-is_absent : goal.returns-else-not-is_absent
returns-else-not-is_absent c =
    let k = c.line_kind-kind.ensures in
    let e = absent_true k.1 k.0 (sym c.is_absent.ensures ∙ c.if-not-is_absent.false) in
    absent_written _ _ _ _ _ e.0 e.1
