-- Lane by lane (`PutLanes`), the used ones and the others.
use Rattle.std.proofs.Common.{arith}
use Rattle.batches.proofs.VolumeLanes.{putting_next}
use Rattle.folded_batches.specs.RowLanes.{row_pair}
use Rattle.folded_batches.proofs.RowPlaces.{row_read, lane_used, lane_unused}
use Rattle.folded_batches.proofs.hermitian.rows.gather_place.Goals as goal

pub loop-v-preserved : goal.loop-v-preserved
loop-v-preserved c =
    let a = c.args in
    putting_next c.loop-v.invariant (omega arith) c.requires.5 c.store_lane.ensures
    (lane_used (row_pair a.rows.now a.width a.first a.second) c.loop-v-test.true (row_read a.rows.now a.width a.first a.second c.loop-v.v c.number.ensures c.number-in-loop-v.ensures))

pub loop-v-2-preserved : goal.loop-v-2-preserved
loop-v-2-preserved c =
    let a = c.args in
    putting_next c.loop-v-2.invariant c.loop-v-2-test.true c.requires.5 c.store_lane-in-loop-v-2.ensures (lane_unused (row_pair a.rows.now a.width a.first a.second) (omega arith))
