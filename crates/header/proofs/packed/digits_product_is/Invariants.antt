-- What is settled so far and the rest of the digits decide; the product so far, times that of the rest, is the whole product.
use mathlib.Core.Path.{◌≡◌}
use mathlib.Core.Bool.{◌&&◌}
use Prim.Native.Nat.{◌*◌, ◌≤◌}
use Rattle.lengths.specs.Lengths.{product, factors_ok, octal_digits}
use Rattle.header.proofs.packed.digits_product_is.Given as goal

abbrev pub invariant-loop-rest : goal.invariant-loop-rest
invariant-loop-rest l = ((l.ok && factors_ok (octal_digits l.rest)) ≡ factors_ok (octal_digits l.factors)) × (product (octal_digits l.factors) ≡ l.done * product (octal_digits l.rest)) × (l.done * l.rest ≤ l.factors)

abbrev pub decreases-loop-rest : goal.decreases-loop-rest
decreases-loop-rest l = l.rest
