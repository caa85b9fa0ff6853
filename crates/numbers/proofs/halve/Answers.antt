-- An even number is halved as it is, an odd one with p added.
use native.Mathlib.Omega.{arith}
use Rattle.numbers.proofs.Parts.{halve_even, halve_odd}
use Rattle.numbers.proofs.halve.Goals as goal

pub returns-then-a-eq0 : goal.returns-then-a-eq0
returns-then-a-eq0 c = halve_even _ _ (omega arith) c.if-a-eq0.true

pub returns-else-a-eq0 : goal.returns-else-a-eq0
returns-else-a-eq0 c = rw c.modulus-p.ensures.0 (halve_odd _ _ (omega arith) c.if-a-eq0.false)
