use native.Mathlib.Omega.{arith}
use Rattle.slices.proofs.Filling.{filling_start, filling_next, filling_whole}
use Rattle.folds.proofs.alternating.after.finish.Goals as goal

pub loop-s-init : goal.loop-s-init
loop-s-init c = filling_start

pub loop-s-preserved : goal.loop-s-preserved
loop-s-preserved c = filling_next c.loop-s.invariant (omega arith) c.store.ensures c.finish_at.ensures

pub returns : goal.returns
returns c = filling_whole c.loop-s.invariant (omega arith) c.requires.line_len
