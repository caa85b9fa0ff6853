-- Both tests together.
use mathlib.Core.Bool.{◌&&◌}
use Rattle.header.proofs.packed.valid_axis.Goals as goal

pub returns : goal.returns
returns c =
    let x = c.admitted.ensures in
    let y = c.digits_product_is.ensures in
    λ i. x i && y i
