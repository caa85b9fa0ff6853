use Rattle.folded_batches.proofs.MixedLanes.{mixing_next}
use Rattle.folded_batches.proofs.mixing.mixed.Goals as goal

pub loop-v-preserved : goal.loop-v-preserved
loop-v-preserved c =
    mixing_next c.of_two-a.result c.of_two-b.result c.loop-v.y c.loop-v.invariant c.loop-v-test.true c.store_lane.ensures c.of_two-a.ensures c.of_two-b.ensures
