-- The digits of the rest are still to be counted.
use mathlib.Core.Path.{◌≡◌}
use Prim.Native.Nat.{◌+◌}
use lib.ListN.{length}
use Rattle.lengths.specs.Lengths.{octal_digits}
use Rattle.file_format.proofs.layout.digit_count.Given as goal

abbrev pub invariant-loop-rest : goal.invariant-loop-rest
invariant-loop-rest l = l.count + length (octal_digits l.rest) ≡ length (octal_digits l.factors)

abbrev pub decreases-loop-rest : goal.decreases-loop-rest
decreases-loop-rest l = l.rest
