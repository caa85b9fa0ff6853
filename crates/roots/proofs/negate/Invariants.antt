-- The numbers before the turn's are negated, the others stand as they were.
use Rattle.std.proofs.Common.{◌≡◌, ℕ, ◌≤◌, get_or}
use Rattle.roots.specs.TableLaws.{NegatedTable}
use Rattle.roots.proofs.negate.Given as goal

abbrev pub invariant-loop-x : goal.invariant-loop-x
invariant-loop-x l = NegatedTable l.m l.x-index l.fn.t l.t × ((j : ℕ) → l.x-index ≤ j → get_or l.t j 0 ≡ get_or l.fn.t j 0)
