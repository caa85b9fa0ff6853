-- (-1)^h by the parity of h.
use Rattle.cell.proofs.OperationLaws.{signed_none, signed_even, signed_odd}
use Rattle.cell.proofs.operations.signed.Goals as goal

pub returns-then-h-eq0 : goal.returns-then-h-eq0
returns-then-h-eq0 c = signed_even _ c.requires.1 _ _ c.if-odd.true c.if-h-eq0.true

pub returns-else-h-eq0 : goal.returns-else-h-eq0
returns-else-h-eq0 c = signed_odd _ c.requires.1 _ _ c.if-odd.true c.if-h-eq0.false c.negated.ensures

pub returns-else-odd : goal.returns-else-odd
returns-else-odd c = signed_none _ c.requires.1 _ _ c.if-odd.false
