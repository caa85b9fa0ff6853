-- No record before this place is of the orbit.
use Rattle.std.proofs.Common.{◌≡◌, ℕ, ◌<◌}
use Rattle.faults.specs.FaultSteps.{place_at}
use Rattle.faults.proofs.first_of_orbit.Given as goal

abbrev pub invariant-loop-i : goal.invariant-loop-i
invariant-loop-i l = (k : ℕ) → k < l.i → place_at l.cell l.file k ≡ place_at l.cell l.file l.last → ⊥
