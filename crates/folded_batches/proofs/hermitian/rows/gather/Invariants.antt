-- The places below j (`GatheredRows`).
use Rattle.folded_batches.specs.RowLanes.{GatheredRows}
use Rattle.folded_batches.proofs.hermitian.rows.gather.Given as goal

abbrev pub invariant-loop-j : goal.invariant-loop-j
invariant-loop-j l = GatheredRows l.rows l.second l.b l.lanes l.j l.d
