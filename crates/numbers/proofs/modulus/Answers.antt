-- The two primes, by the modulus number.
use native.Mathlib.Omega.{arith}
use Rattle.numbers.proofs.Primes.{prime_one, prime_two}
use Rattle.numbers.proofs.modulus.Goals as goal

pub returns-then-m-eq1 : goal.returns-then-m-eq1
returns-then-m-eq1 c = omega (arith, prime_one c.if-m-eq1.true)

pub returns-else-m-eq1 : goal.returns-else-m-eq1
returns-else-m-eq1 c = omega (arith, prime_two c.requires c.if-m-eq1.false)
