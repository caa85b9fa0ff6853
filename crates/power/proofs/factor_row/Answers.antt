-- The squares of the first pair, of the last, and twice those between, reduced.
use Rattle.std.proofs.Common.{arith, ◌/◌}
use Rattle.cell.proofs.StoredFactors.{pair_inside}
use Rattle.power.proofs.PowerLaws.{below_most, row_inside, factor_row_sum}
use Rattle.power.proofs.factor_row.Goals as goal

pub pair_place-requires : goal.pair_place-requires
pair_place-requires c =
    let i = pair_inside c.args.r.now.whole c.args.w c.args.h 0 c.requires.0 c.requires.1 (omega arith) in
    (i.sizes, i.layer, i.row, i.column)

pub square_sum-first-requires : goal.square_sum-first-requires
square_sum-first-requires c =
    let r = c.args.r.now in
    (omega (arith, c.pair_place.ensures, row_inside r.whole c.args.w c.args.h c.requires.0 c.requires.1), omega arith, below_most r.modulus r.below)

pub pair_place-requires-2 : goal.pair_place-requires-2
pair_place-requires-2 c =
    let i = pair_inside c.args.r.now.whole c.args.w c.args.h (c.args.r.now.cell.n2 / 2) c.requires.0 c.requires.1 (omega arith) in
    (i.sizes, i.layer, i.row, i.column)

pub square_sum-last-requires : goal.square_sum-last-requires
square_sum-last-requires c =
    let r = c.args.r.now in
    (omega (arith, c.pair_place-2.ensures, row_inside r.whole c.args.w c.args.h c.requires.0 c.requires.1), omega arith, below_most r.modulus r.below)

pub pair_place-requires-3 : goal.pair_place-requires-3
pair_place-requires-3 c =
    let i = pair_inside c.args.r.now.whole c.args.w c.args.h 0 c.requires.0 c.requires.1 (omega arith) in
    (i.sizes, i.layer, i.row, omega arith)

pub square_sum-inner-requires : goal.square_sum-inner-requires
square_sum-inner-requires c =
    let r = c.args.r.now in
    let n = r.whole.sizes.second in
    (omega (arith, c.pair_place-3.ensures, n.even, n.low, row_inside r.whole c.args.w c.args.h c.requires.0 c.requires.1), omega (arith, n.high), below_most r.modulus r.below)

pub returns : goal.returns
returns c =
    let n = c.args.r.now.whole.sizes.second in
    factor_row_sum _ _ c.args.r.now.m _ c.args.w c.args.h _ _ _ c.pair_place.ensures.0 c.pair_place-2.ensures.0 c.pair_place-3.ensures.0 (omega (arith, n.even, n.low))
    (c.square_sum-first.ensures.by_index c.args.r.now.m) (c.square_sum-last.ensures.by_index c.args.r.now.m) (c.square_sum-inner.ensures.by_index c.args.r.now.m) c.reduce_below.ensures
