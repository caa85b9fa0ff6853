-- The remainder by the constant is the residue modulo the prime that m chooses.
use Rattle.algebra.specs.ring.Ring.{residue}
use Rattle.numbers.proofs.Primes.{prime_one, prime_two}
use Rattle.numbers.proofs.reduce.Goals as goal

pub returns-then-m-eq1 : goal.returns-then-m-eq1
unfolding residue
returns-then-m-eq1 c = rw (prime_one c.if-m-eq1.true)

pub returns-else-m-eq1 : goal.returns-else-m-eq1
unfolding residue
returns-else-m-eq1 c = rw (prime_two c.requires c.if-m-eq1.false)
