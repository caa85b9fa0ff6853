use Rattle.std.proofs.Common.{◌/◌, ◌<◌, ◌≤◌, sym, ap, subst, arith}
use Rattle.algebra.specs.cells.Cell.{full}
use Rattle.cell.specs.Volume.{volume_length}
use Rattle.cell.specs.OrbitPlace.{least_place}
use Rattle.cell.specs.Operations.{cell_group, cell_halves, triple_of}
use Rattle.cell.proofs.OrbitPlaces.{orbit_place_low}
use Rattle.volume.proofs.orbit_place.OrbitPlaceLaws.{layers_few, place_behind, least_next, least_end}
use Rattle.volume.proofs.orbit_place.orbit_place.Goals as goal

pub pair_place-place-requires : goal.pair_place-place-requires
pair_place-place-requires c =
    let n = c.requires.0.third in
    (c.requires.0, subst (λ n. n ≤ 2880) (sym c.layer_count.ensures) (layers_few (cell_group c.args.cell) (c.args.cell.n3 / 2) (omega (arith, n.low)) (omega (arith, n.high))), omega arith, omega arith)

pub loop-number-init : goal.loop-number-init
loop-number-init c =
    let g = cell_group c.args.cell in
    let a = cell_halves c.args.cell in
    ap (least_place g a (full g) (triple_of c.args.j)) (sym (place_behind g a c.layer_count.ensures c.pair_place-place.ensures.0))

pub loop-number-preserved : goal.loop-number-preserved
loop-number-preserved c = least_next _ _ _ _ c.operation_count-number-end.ensures.0 _ _ c.loop-number.invariant c.loop-number-test.true c.operation_at-o.ensures c.image.ensures.0 c.lower_place-place.ensures

pub returns : goal.returns
returns c =
    let g = cell_group c.args.cell in
    let a = cell_halves c.args.cell in
    let z = c.requires.0 in
    let w = c.requires.1 in
    let e = least_end g a (triple_of c.args.j) (full g) c.operation_count-number-end.ensures.0 c.loop-number.number c.loop-number.place c.loop-number.invariant c.loop-number-test.false in
    (e, subst (λ n. n < volume_length g a) (sym e) (orbit_place_low g a (omega (arith, z.first.low), omega (arith, z.second.low), omega (arith, z.third.low)) (triple_of c.args.j) (omega (arith, z.first.even, w.h), omega (arith, z.second.even, w.k), omega (arith, z.third.even, w.l))))
