-- Two sums.
use Rattle.slices.proofs.Bounds.{small_of}
use Rattle.numbers.proofs.RealValues.{sum_small}
use Rattle.folds.proofs.alternating.after.Back.{twice_by}
use Rattle.folds.proofs.alternating.after.twice_sum.Goals as goal

pub add-s-requires : goal.add-s-requires
add-s-requires c =
    let z = small_of c.args.line.now 0 c.get-z.ensures c.requires.in_bounds.1 in
    (c.requires.modulus, z.re, z.im)

pub add-requires : goal.add-requires
add-requires c =
    (c.requires.modulus, sum_small c.args.m _ _ c.add-s.ensures, sum_small c.args.m _ _ c.add-s.ensures)

pub returns : goal.returns
returns c =
    (sum_small c.args.m _ _ c.add.ensures, twice_by c.args.m c.args.line.now c.get-z.ensures c.add-s.ensures c.add.ensures)
