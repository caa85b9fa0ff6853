use native.Mathlib.Omega.{arith}
use Rattle.slices.proofs.Filling.{filling_start, filling_next, filling_whole}
use Rattle.folds.proofs.mirror.before.short_line.Goals as goal

pub loop-t-init : goal.loop-t-init
loop-t-init c = filling_start

pub loop-t-preserved : goal.loop-t-preserved
loop-t-preserved c = filling_next c.loop-t.invariant (omega arith) c.store.ensures c.short_at.ensures

pub returns : goal.returns
returns c = filling_whole c.loop-t.invariant (omega arith) c.requires.line_len.1
