use Rattle.folded_batches.proofs.MixedLanes.{alone_next}
use Rattle.folded_batches.proofs.mixing.mixed_alone.Goals as goal

pub loop-v-preserved : goal.loop-v-preserved
loop-v-preserved c =
    alone_next c.of_one-a.result c.of_one-b.result c.loop-v.y c.loop-v.invariant c.loop-v-test.true c.store_lane.ensures c.of_one-a.ensures c.of_one-b.ensures
