-- Read, summed and stored.
use Rattle.butterflies.specs.Butterflies.{of_two}
use Rattle.butterflies.proofs.quarter_turn.Powers.{half_turn}
use Rattle.butterflies.proofs.radix.Spreading.{spread_none, spread_next, two_loaded, butterfly_stored}
use Rattle.butterflies.proofs.radix.two_at.Goals as goal

pub returns : goal.returns
returns c =
    let f = of_two c.two-y.result in
    let d = c.args.to.now in
    butterfly_stored c.args.m c.args.at d (two_loaded c.times_factor.ensures c.times_factor-2.ensures)
    (c.two-y.ensures _ (half_turn c.requires.modulus.1))
    (spread_next c.args.at f d 0 (spread_none c.args.at f d) c.store_next.ensures)
