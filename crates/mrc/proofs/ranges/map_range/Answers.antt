use Rattle.std.proofs.Common.{List, ℕ, ℤ, arith}
use Rattle.cell.specs.declared.operations.UnitCell.{UnitCell}
use Rattle.mrc.specs.Ranges.{of_plane, of_stored}
use Rattle.mrc.proofs.Densities.{some_plane, spans_first, spans_next, spans_all}
use Rattle.mrc.proofs.ranges.map_range.Goals as goal

abbrev plane : UnitCell → List ℤ → (ℤ → ℤ → ℤ) → (z : ℕ) → ℤ
plane cell map pick z = of_plane cell map z pick

pub plane_range-range-requires : goal.plane_range-range-requires
plane_range-range-requires c = (c.requires.0, c.requires.1, some_plane c.args.cell c.args.map.now c.requires.0)

pub loop-z-init : goal.loop-z-init
loop-z-init c = spans_first (plane c.args.cell c.args.map.now) c.plane_range-range.ensures

pub loop-z-preserved : goal.loop-z-preserved
loop-z-preserved c = spans_next c.loop-z.z (plane c.args.cell c.args.map.now) c.loop-z.invariant c.plane_range.ensures c.joined-range.ensures

pub returns : goal.returns
unfolding of_stored
returns c =
    let layers = c.layer_count-z-end.ensures in
    let some = some_plane c.args.cell c.args.map.now c.requires.0 in
    spans_all (plane c.args.cell c.args.map.now) (omega (arith, layers, some)) (omega (arith, layers)) c.loop-z.invariant
