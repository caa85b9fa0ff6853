-- -h is n - h, and 0 for 0.
use native.Mathlib.Omega.{arith}
use Rattle.cell.proofs.OperationLaws.{flip_none, flip_zero, flip_other}
use Rattle.cell.proofs.operations.flipped.Goals as goal

pub returns-then-h-eq0 : goal.returns-then-h-eq0
returns-then-h-eq0 c = (flip_zero _ _ _ c.if-minus.true c.if-h-eq0.true, omega arith)

pub returns-else-h-eq0 : goal.returns-else-h-eq0
returns-else-h-eq0 c = (flip_other _ _ _ c.requires.0 c.requires.1 c.if-minus.true c.if-h-eq0.false, omega arith)

pub returns-else-minus : goal.returns-else-minus
returns-else-minus c = (flip_none _ _ _ c.if-minus.false, c.requires.1)
