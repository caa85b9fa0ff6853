-- The text of a refusal.
use mathlib.Core.List.{List, [], ◌∷◌, ◌++◌}
use Prim.Native.Nat.{ℕ, ◌≤◌}
use native.Mathlib.Omega.{arith}
use lib.ListN.{length, length-append}
use Rattle.printing.specs.Text.{refusal_text}
use Rattle.output.specs.Written.{Ends}
use Rattle.output.proofs.Decimals.{decimal_short}

pub refusal_short : (n place : ℕ) → length (refusal_text n place) ≤ 53
unfolding refusal_text
refusal_short n place = simp length-append (omega (arith, decimal_short n, decimal_short place))

pub refusal_ends : (n place : ℕ) → Ends 0 (refusal_text n place)
refusal_ends n place = record { low = omega (arith, refusal_short n place) }
