-- The squares of the row's numbers, reduced.
use Rattle.std.proofs.Common.{arith, ap, ◌*◌}
use Rattle.cell.proofs.StoredFactors.{pair_inside}
use Rattle.power.proofs.PowerLaws.{below_most, row_inside, map_row_sum}
use Rattle.power.proofs.map_row.Goals as goal

pub pair_place-start-requires : goal.pair_place-start-requires
pair_place-start-requires c =
    let i = pair_inside c.args.r.now.whole c.args.w c.args.h 0 c.requires.0 c.requires.1 (omega arith) in
    (i.sizes, i.layer, i.row, i.column)

pub square_sum-requires : goal.square_sum-requires
square_sum-requires c =
    let r = c.args.r.now in
    let n = r.whole.sizes.second in
    (omega (arith, c.pair_place-start.ensures, n.even, row_inside r.whole c.args.w c.args.h c.requires.0 c.requires.1), n.high, below_most r.modulus r.below)

pub returns : goal.returns
returns c =
    map_row_sum _ _ c.args.r.now.m _ c.args.w c.args.h _ (ap (λ x. 2 * x) c.pair_place-start.ensures.0) (omega (arith, c.args.r.now.whole.sizes.second.even))
    (c.square_sum.ensures.by_index c.args.r.now.m) c.reduce_below.ensures
