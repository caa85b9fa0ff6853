-- What the quotient by the prime leaves is the residue.
use Rattle.algebra.specs.ring.Ring.{residue}
use Rattle.numbers.specs.Value.{prime}
use Rattle.numbers.proofs.Quotients.{rest_is}
use Rattle.numbers.proofs.reduce_below.Goals as goal

pub returns : goal.returns
unfolding residue
returns c = rw (c.quotient.ensures, c.modulus.ensures.0) (rest_is (prime c.args.m) c.args.x)
