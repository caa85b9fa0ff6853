-- Lane by lane, the used ones and the others.
use Rattle.std.proofs.Common.{arith, ◌∙◌}
use Rattle.batches.proofs.VolumeLanes.{pair_used, pair_unused, putting_next}
use Rattle.batches.proofs.gathering.gather_place.Goals as goal

pub loop-v-preserved : goal.loop-v-preserved
loop-v-preserved c = putting_next c.loop-v.invariant (omega arith) (omega arith) c.store_lane.ensures (c.get-x.ensures ∙ pair_used _ _ c.loop-v-test.true)

pub loop-v-2-preserved : goal.loop-v-2-preserved
loop-v-2-preserved c = putting_next c.loop-v-2.invariant (omega arith) (omega arith) c.store_lane-in-loop-v-2.ensures (pair_unused _ _ (omega arith))
