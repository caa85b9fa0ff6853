-- The places below j (`ScatteredRows`).
use Rattle.std.proofs.Common.{◌≡◌, length}
use Rattle.folded_batches.specs.RowLanes.{ScatteredRows}
use Rattle.folded_batches.proofs.hermitian.rows.scatter.Given as goal

abbrev pub invariant-loop-j : goal.invariant-loop-j
invariant-loop-j l = ScatteredRows l.m l.c l.s l.second l.b l.lanes l.j l.initial.rows l.rows × (length l.y ≡ 32)
