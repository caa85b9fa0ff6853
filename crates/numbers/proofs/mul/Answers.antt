-- The whole product, reduced once.
use native.Mathlib.Omega.{arith}
use Rattle.numbers.proofs.Primes.{prime_most}
use Rattle.numbers.proofs.Residues.{product_mod}
use Rattle.numbers.proofs.mul.Goals as goal

pub whole-requires : goal.whole-requires
whole-requires c = omega (arith, prime_most c.requires.0)

pub returns : goal.returns
returns c = product_mod _ _ _ c.whole.ensures.0 c.reduce_below.ensures
