-- The rows below v (`PutRows`).
use Rattle.batches.specs.Lanes.{lane_at}
use Rattle.folded_batches.specs.RowLanes.{PutRows}
use Rattle.folded_batches.proofs.hermitian.rows.put_rows.Given as goal

abbrev pub invariant-loop-v : goal.invariant-loop-v
invariant-loop-v l = PutRows (λ v. lane_at l.y 0 v) l.width l.first l.second l.v l.fn.rows l.rows
