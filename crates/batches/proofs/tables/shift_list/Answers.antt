-- Number by number.
use Rattle.batches.proofs.LastReduction.{shifting_next}
use Rattle.batches.proofs.tables.shift_list.Goals as goal

pub loop-k-preserved : goal.loop-k-preserved
loop-k-preserved c = shifting_next c.loop-k.invariant c.loop-k-test.true c.shift-c.ensures c.mul.ensures
