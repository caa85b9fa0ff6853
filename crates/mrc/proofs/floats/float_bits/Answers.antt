-- The float of a whole number is no NaN.
use mathlib.Core.Path.{sym, ◌∙◌, ap, subst}
use mathlib.Core.Bool.{not}
use native.Mathlib.Omega.{arith}
use lib.Dec.{T}
use lib.Ieee.{Float, is_nan}
use mir.Syntax.{w64}
use mir.ValLaws.{to_z-of_z}
use Rattle.mrc.specs.Floats.{float_of}
use Rattle.mrc.proofs.WholeFloats.{whole_number}
use Rattle.mrc.proofs.floats.float_bits.Goals as goal

pub bits_of-requires : goal.bits_of-requires
bits_of-requires c =
    subst (λ (x : Float). T (not (is_nan x))) (sym (c.float_of.ensures ∙ ap float_of (to_z-of_z w64 c.args.n c.ranges.n))) (whole_number c.args.n (omega (arith, c.requires)))
