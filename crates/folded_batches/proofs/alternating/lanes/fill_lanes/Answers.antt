use Rattle.std.proofs.Common.{refl, subst}
use Rattle.numbers.proofs.Values.{pair_path}
use Rattle.folded_batches.proofs.MixedLanes.{block_long, block_new}
use Rattle.folded_batches.proofs.alternating.lanes.fill_lanes.Goals as goal

pub loop-v-preserved : goal.loop-v-preserved
loop-v-preserved g c = record {
  long = block_long _ _ _ c.loop-v.invariant.long c.loop-v-test.true c.store_lane.ensures;
  each = block_new _ _ _ c.loop-v.invariant.long c.loop-v-test.true c.store_lane.ensures (λ u x. goal.F-post g c.args.f u x) c.loop-v.invariant.each (subst (λ x. goal.F-post g c.args.f c.loop-v.v x) (pair_path refl refl) c.f-x.ensures);
}
