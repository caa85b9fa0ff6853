-- p - a stands for -a, and 0 for -0.
use native.Mathlib.Omega.{arith}
use Rattle.numbers.proofs.Primes.{prime_pos}
use Rattle.numbers.proofs.Residues.{negation_zero, negation_below}
use Rattle.numbers.proofs.neg.Goals as goal

pub returns-then-a-eq0 : goal.returns-then-a-eq0
returns-then-a-eq0 c = negation_zero _ _ (prime_pos _) c.if-a-eq0.true

pub returns-else-a-eq0 : goal.returns-else-a-eq0
returns-else-a-eq0 c = rw c.modulus-p.ensures.0 (negation_below _ _ (omega arith) c.if-a-eq0.false)
