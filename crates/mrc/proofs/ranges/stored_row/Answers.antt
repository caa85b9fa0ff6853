-- The row begins at its first pair, lies in the map, and has the densities of its points.
use Rattle.std.proofs.Common.{ap, ℕ, ◌*◌, arith}
use Rattle.mrc.proofs.Densities.{plane_inside, row_inside, row_densities, spans_as}
use Rattle.mrc.proofs.ranges.stored_row.Goals as goal

pub pair_place-requires : goal.pair_place-requires
pair_place-requires c =
    let p = c.requires in
    (p.0, omega (arith, plane_inside c.args.cell c.args.map.now p.0 c.args.z p.2, p.0.third.high), omega (arith, p.3, p.0.first.high), omega arith)

pub row_range-requires : goal.row_range-requires
row_range-requires c =
    let p = c.requires in
    (omega (arith, p.0.second.low), row_inside c.args.cell c.args.map.now p.0 c.args.x c.args.z (2 * c.pair_place.result) p.3 p.2 (ap (λ (n : ℕ). 2 * n) c.pair_place.ensures.0) p.1)

pub returns : goal.returns
returns c =
    let p = c.requires in
    spans_as _ _ (λ pick. row_densities c.args.cell c.args.map.now p.0 pick c.args.x c.args.z (2 * c.pair_place.result) p.2 (ap (λ (n : ℕ). 2 * n) c.pair_place.ensures.0)) c.row_range.ensures
