-- Read, summed and stored.
use Rattle.butterflies.specs.Butterflies.{of_three}
use lib.Dec.{lit<}
use Rattle.butterflies.proofs.radix.Spreading.{asked, spread_none, spread_more, spread_next, three_loaded, butterfly_stored}
use Rattle.butterflies.proofs.radix.three_at.Goals as goal

pub times_factor-requires-3-clause-first_in_bounds : goal.times_factor-requires-3-clause-first_in_bounds
times_factor-requires-3-clause-first_in_bounds c = asked c.requires.reads 2 (lit< tt)

pub returns : goal.returns
returns c =
    let f = of_three c.three-y.result in
    let d = c.args.to.now in
    butterfly_stored c.args.m c.args.at d (three_loaded c.times_factor.ensures c.times_factor-2.ensures c.times_factor-3.ensures)
    c.three-y.ensures
    (spread_next c.args.at f d 1 (spread_more c.args.at f d 0 (spread_none c.args.at f d) c.store_at.ensures) c.store_next.ensures)
