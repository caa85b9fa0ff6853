-- The factor one changes nothing, and any other is read from the tables.
use native.Mathlib.Omega.{arith}
use Rattle.numbers.proofs.Primes.{prime_most}
use Rattle.slices.proofs.Bounds.{small_of}
use Rattle.butterflies.proofs.quarter_turn.Powers.{root_small}
use Rattle.butterflies.proofs.twiddle.Loading.{loaded_one, loaded_product}
use Rattle.butterflies.proofs.twiddle.times_factor.Goals as goal

pub of_pair-requires : goal.of_pair-requires
of_pair-requires c =
    let small = small_of c.args.from.now _ c.get-v.ensures c.requires.first_in_bounds.2 in
    record { re = omega (arith, small.re, prime_most c.requires.modulus.0); im = omega (arith, small.im, prime_most c.requires.modulus.0) }

pub product-requires : goal.product-requires
product-requires c =
    (c.requires.modulus.0, root_small c.requires.modulus.1 c.requires.first_in_bounds.1 c.root_at.ensures, small_of c.args.from.now _ c.get-v.ensures c.requires.first_in_bounds.2)

pub returns-then-k-eq0 : goal.returns-then-k-eq0
returns-then-k-eq0 c =
    loaded_one c.args.m c.args.at c.args.from.now c.args.b c.get-v.ensures _ c.if-k-eq0.true c.of_pair.ensures.0 (c.of_pair.ensures.1 c.args.m)

pub returns-else-k-eq0 : goal.returns-else-k-eq0
returns-else-k-eq0 c =
    loaded_product c.args.m c.args.at c.args.from.now c.args.b c.get-v.ensures c.requires.modulus.1 c.requires.first_in_bounds.1 c.root_at.ensures c.product.ensures.0 c.product.ensures.1
