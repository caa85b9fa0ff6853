use Rattle.slices.proofs.Filling.{filling_start, filling_next}
use Rattle.slices.proofs.copy.Goals as goal

pub loop-j-init : goal.loop-j-init
loop-j-init c = filling_start

pub loop-j-preserved : goal.loop-j-preserved
loop-j-preserved c = filling_next c.loop-j.invariant c.loop-j-test.true c.store.ensures c.get.ensures
