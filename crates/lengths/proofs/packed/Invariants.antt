-- The number holds the digits of the factors from i on.
use mathlib.Core.Path.{◌≡◌}
use lib.ListN.{drop}
use Rattle.lengths.specs.Lengths.{octal}
use Rattle.lengths.proofs.packed.Given as goal

abbrev pub invariant-loop-i : goal.invariant-loop-i
invariant-loop-i l = l.number ≡ octal (drop l.i l.factors)
