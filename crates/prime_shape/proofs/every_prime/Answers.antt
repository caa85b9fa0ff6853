-- The facts of every prime of the shape.
use Rattle.prime_shape.proofs.Lines.{every_prime}
use Rattle.prime_shape.proofs.every_prime.Goals as goal

pub returns : goal.returns
returns c = every_prime
