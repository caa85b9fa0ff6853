-- Either part is the sum of two whole products.
use native.Mathlib.Omega.{arith}
use Rattle.numbers.proofs.unreduced.Unreduced.{product_means}
use Rattle.numbers.proofs.unreduced.product.Goals as goal

pub returns : goal.returns
returns c =
    let is = c.requires in (
      record { re = omega (arith, c.whole.ensures.1, c.whole-2.ensures.1); im = omega (arith, c.whole-3.ensures.1, c.whole-4.ensures.1) },
      product_means _ _ _ _ _ _ _ _ c.modulus-p.ensures.0 is.2.im c.whole.ensures.0 c.whole-2.ensures.0 c.whole-3.ensures.0 c.whole-4.ensures.0,
    )
