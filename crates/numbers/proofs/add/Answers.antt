-- A sum of two residues is below 2p: one subtraction reduces it, of what the second lacks of p.
use native.Mathlib.Omega.{arith}
use Rattle.numbers.proofs.Residues.{sum_below, sum_above}
use Rattle.numbers.proofs.add.Goals as goal

pub returns-then-a-rest : goal.returns-then-a-rest
returns-then-a-rest c = sum_below _ _ _ (omega (arith, c.modulus.ensures))

pub returns-else-a-rest : goal.returns-else-a-rest
returns-else-a-rest c = rw c.modulus.ensures.0 (sum_above _ _ _ (omega arith) (omega arith) (omega arith))
