-- The half tangent stands beside i.
use native.Mathlib.Omega.{arith}
use Rattle.numbers.proofs.Values.{small_by}
use Rattle.numbers.proofs.Primes.{prime_pos}
use Rattle.fold_formulas.proofs.mirror.Forms.{half_sum_by}
use Rattle.fold_formulas.proofs.mirror.half_sum.Goals as goal

pub plus_product-requires : goal.plus_product-requires
plus_product-requires c =
    (c.requires.0, c.requires.2, c.requires.3, record { re = omega (arith, prime_pos c.args.m); im = c.requires.1 }, c.requires.4)

pub halved-requires : goal.halved-requires
halved-requires c = (c.requires.0, small_by _ _ c.plus_product.ensures)

pub returns : goal.returns
returns c = half_sum_by _ _ _ _ _ c.plus_product.ensures c.halved.ensures
