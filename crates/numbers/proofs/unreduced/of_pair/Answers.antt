-- One value is small enough to stand for a product.
use native.Mathlib.Omega.{arith}
use Rattle.numbers.proofs.unreduced.Unreduced.{of_pair_means}
use Rattle.numbers.proofs.unreduced.of_pair.Goals as goal

pub returns : goal.returns
returns c =
    (record { re = omega (arith, c.requires.re); im = omega (arith, c.requires.im) }, λ m. of_pair_means m c.args.v)
