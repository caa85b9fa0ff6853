-- What is settled so far and the rest of the digits decide; the product so far, times that of the rest, is the whole product.
use native.Mathlib.Omega.{arith}
use mathlib.Core.Path.{refl, sym}
use mathlib.Core.Bool.{◌&&◌}
use lib.Dec.{eqb}
use Rattle.header.proofs.Digits.{ok_next, ok_ends, product_cons, product_ends, product_room, product_small}
use Rattle.header.proofs.packed.digits_product_is.Goals as goal

pub loop-rest-init : goal.loop-rest-init
loop-rest-init c = (refl, omega arith, omega arith)

pub overflow_mul-done : goal.overflow_mul-done
overflow_mul-done c =
    omega (arith, product_room c.args.factors c.loop-rest.rest c.loop-rest.done c.loop-rest-test.true c.loop-rest.invariant.2, c.ranges.factors.fits)

pub loop-rest-preserved : goal.loop-rest-preserved
loop-rest-preserved c =
    let f = c.args.factors in
    (ok_next c.loop-rest.ok f c.loop-rest.rest c.loop-rest-test.true c.loop-rest.invariant.0, product_cons f c.loop-rest.rest c.loop-rest.done c.loop-rest-test.true c.loop-rest.invariant.1, product_small f c.loop-rest.rest c.loop-rest.done c.loop-rest.invariant.2)

pub returns : goal.returns
returns c =
    let f = c.args.factors in
    let x = ok_ends c.loop-rest.ok f c.loop-rest.rest c.loop-rest-test.false c.loop-rest.invariant.0 in
    let y = sym (product_ends f c.loop-rest.rest c.loop-rest.done c.loop-rest-test.false c.loop-rest.invariant.1) in
    λ i. x i && eqb (y i) c.args.n
