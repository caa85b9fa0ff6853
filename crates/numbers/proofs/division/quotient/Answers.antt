-- The high part of the product, less 14 binary places, is the quotient.
use mathlib.Core.Path.{◌∙◌, ap}
use Prim.Native.Nat.{ℕ, ◌*◌, ◌/◌}
use Rattle.numbers.proofs.Quotients.{quotient_is}
use Rattle.numbers.proofs.division.quotient.Goals as goal

pub returns : goal.returns
returns c =
    ap (λ (n : ℕ). n / 16384) (c.high.ensures ∙ ap (λ (n : ℕ). c.args.x * n / 18446744073709551616) c.scale_of.ensures.0)
    ∙ quotient_is c.args.m c.args.x c.requires.0 c.requires.1
