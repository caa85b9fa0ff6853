use native.Mathlib.Omega.{arith}
use Rattle.slices.proofs.Filling.{filling_start, filling_next, filling_whole}
use Rattle.folds.proofs.mirror.after.finish.Goals as goal

pub loop-p-init : goal.loop-p-init
loop-p-init c = filling_start

pub loop-p-preserved : goal.loop-p-preserved
loop-p-preserved c = filling_next c.loop-p.invariant (omega arith) c.store.ensures c.finish_at.ensures

pub returns : goal.returns
returns c = filling_whole c.loop-p.invariant (omega arith) c.requires.fold_len.1
