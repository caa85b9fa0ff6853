-- Pair by pair.
use Rattle.slices.proofs.Filling.{filling_start, filling_next}
use Rattle.batches.proofs.VolumeLanes.{numbers_lane}
use Rattle.batches.proofs.gathering.put_place.Goals as goal

pub loop-v-init : goal.loop-v-init
loop-v-init c = filling_start

pub loop-v-preserved : goal.loop-v-preserved
loop-v-preserved c = filling_next c.loop-v.invariant c.loop-v-test.true c.store.ensures (numbers_lane c.args.y.now c.loop-v.v)
