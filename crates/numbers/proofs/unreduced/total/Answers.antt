-- The result is reduced once.
use mathlib.Core.Path.{◌∙◌}
use native.Mathlib.Omega.{arith}
use Rattle.numbers.proofs.Accumulators.{accumulated_pair}
use Rattle.numbers.proofs.unreduced.Unreduced.{counted}
use Rattle.numbers.proofs.unreduced.total.Goals as goal

pub reduced_below-requires : goal.reduced_below-requires
reduced_below-requires c =
    let m = c.args.m in
    let most = c.sum.ensures m 2733880 2428552 _ _ (counted m 2733880 (omega arith) c.requires.room.0) (counted m 2428552 (omega arith) c.requires.room.1) in
    (c.requires.modulus, omega (arith, most.re), omega (arith, most.im))

pub returns : goal.returns
returns c = λ n k a b hx hy. c.reduced_below.ensures ∙ accumulated_pair (c.sum.ensures _ n k a b hx hy)
