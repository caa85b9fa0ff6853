-- Conjugate, product, scale.
use Rattle.std.proofs.Common.{◌∙◌, ap}
use Rattle.algebra.specs.ring.Ring.{Ops}
use Rattle.numbers.specs.Value.{Value, field, real, value_of, pair_of}
use Rattle.numbers.specs.Bounds.{res}
use Rattle.numbers.specs.Unreduced.{meant}
use Rattle.numbers.proofs.Values.{small_by, value_by}
use Rattle.correlation.proofs.products.correlate_pair.Goals as goal

pub product-product-requires : goal.product-product-requires
product-product-requires c = (c.requires.0, small_by c.args.m _ c.conjugate.ensures, c.requires.3)

pub scaled-requires : goal.scaled-requires
scaled-requires c = (c.requires.0, c.requires.1, small_by c.args.m _ c.reduced_below.ensures)

pub returns : goal.returns
unfolding meant
returns c =
    let a = c.args in
    c.scaled.ensures
    ∙ ap (λ (z : Value a.m). pair_of ((field a.m).mul (real a.m (res a.m a.c)) z))
    (value_by a.m _ c.reduced_below.ensures ∙ c.product-product.ensures.1 ∙ ap (λ (z : Value a.m). (field a.m).mul z (value_of a.m a.y)) (value_by a.m _ c.conjugate.ensures))
