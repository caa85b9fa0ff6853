-- The sum of both products is small enough.
use Rattle.std.proofs.Common.{arith}
use Rattle.numbers.proofs.Primes.{prime_pos}
use Rattle.batches.proofs.Division.{product_most}
use Rattle.batches.proofs.reduction.weighed.Goals as goal

pub divided-requires : goal.divided-requires
divided-requires c = (c.requires.0, omega (arith, product_most c.requires.1 c.requires.3, product_most c.requires.2 c.requires.4, prime_pos c.args.m))
