-- The order of the refusals of a map's text.
use mathlib.Core.Path.{refl}
use Rattle.printing.specs.Orders.{TextRefusals}

pub text_refusals : TextRefusals
text_refusals = record { ordered = λ j v room. refl }
