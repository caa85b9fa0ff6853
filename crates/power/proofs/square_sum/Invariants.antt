-- The squares of the numbers that were looked at.
use Rattle.std.proofs.Common.{◌≡◌, ℕ, ◌*◌, ◌≤◌}
use Rattle.numbers.specs.Bounds.{res}
use Rattle.power.specs.PowerSteps.{squares}
use Rattle.power.proofs.square_sum.Given as goal

abbrev pub invariant-loop-x : goal.invariant-loop-x
invariant-loop-x l = (l.total ≤ l.x-index * 91445155201) × ((m : ℕ) → res m l.total ≡ squares m l.volume l.start l.x-index)
