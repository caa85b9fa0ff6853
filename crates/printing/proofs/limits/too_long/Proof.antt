-- The comparison is the test.
use mathlib.Core.Path.{refl}
use Rattle.printing.proofs.limits.too_long.Statement.{statement}
use Rattle.printing.proofs.limits.too_long.Tie as tie

returns : tie.Need-returns
returns c = refl

pub too_long_spec : {M : Type 1} → statement M
too_long_spec = tie.close (tie.spec returns)
