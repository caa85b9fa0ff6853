-- Row by row (`PutRows`).
use Rattle.std.proofs.Common.{arith}
use Rattle.slices.proofs.Rows.{row_end}
use Rattle.folded_batches.proofs.RowPlaces.{put_next}
use Rattle.folded_batches.proofs.hermitian.rows.put_rows.Goals as goal

pub loop-v-preserved : goal.loop-v-preserved
loop-v-preserved c =
    let p = c.requires in
    put_next c.args.y.now c.loop-v.rows c.loop-v.invariant p.1 p.2 p.3 (omega (arith, row_end c.args.width c.loop-v-test.true))
