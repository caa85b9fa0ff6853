-- The order of the refusals of a file for viewers.
use mathlib.Core.Path.{refl}
use Rattle.mrc.specs.Orders.{MrcRefusals}

pub mrc_refusals : MrcRefusals
mrc_refusals = record { ordered = λ cell v parameters room. refl }
