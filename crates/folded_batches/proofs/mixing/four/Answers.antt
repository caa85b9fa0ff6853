-- The sum is small enough.
use Rattle.std.proofs.Common.{arith}
use Rattle.numbers.proofs.Primes.{prime_pos}
use Rattle.batches.proofs.Division.{product_most}
use Rattle.folded_batches.proofs.mixing.four.Goals as goal

pub divided-requires : goal.divided-requires
divided-requires c =
    let a = c.requires.modulus in
    let x = c.requires.x1_bound in
    (a.0, omega (arith, product_most a.1 x.0, product_most a.2 x.1, product_most a.3 x.2, product_most a.4 x.3, prime_pos c.args.m))
