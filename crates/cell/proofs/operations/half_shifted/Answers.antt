-- x + n/2, going round, is x + n/2 or x - n/2.
use native.Mathlib.Omega.{arith}
use Rattle.cell.proofs.OperationLaws.{shifted_none, shifted_low, shifted_high}
use Rattle.cell.proofs.operations.half_shifted.Goals as goal

pub returns-then-x-half : goal.returns-then-x-half
returns-then-x-half c = (shifted_low _ _ _ c.if-odd.true c.if-x-half.true, omega arith)

pub returns-else-x-half : goal.returns-else-x-half
returns-else-x-half c = (shifted_high _ _ _ c.requires.0 c.requires.1 c.if-odd.true c.if-x-half.false, omega arith)

pub returns-else-odd : goal.returns-else-odd
returns-else-odd c = (shifted_none _ _ _ c.if-odd.false, c.requires.1)
