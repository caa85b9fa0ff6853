-- A difference is taken as it is, or p is added first.
use native.Mathlib.Omega.{arith}
use Rattle.numbers.proofs.Residues.{difference_above, difference_below}
use Rattle.numbers.proofs.sub.Goals as goal

pub returns-then-b-a : goal.returns-then-b-a
returns-then-b-a c = difference_above _ _ _ (omega arith) (omega arith)

pub returns-else-b-a : goal.returns-else-b-a
returns-else-b-a c = rw c.modulus-p.ensures.0 (difference_below _ _ _ (omega arith) (omega arith))
