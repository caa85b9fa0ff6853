-- None of the lanes at the steps before k runs.
use Rattle.std.proofs.Common.{◌≡◌, ◌-◌}
use Rattle.scheduler.specs.Scheduler.{next_from}
use Rattle.scheduler.proofs.next.next_lane.Given as goal

abbrev pub invariant-loop-k : goal.invariant-loop-k
invariant-loop-k l = next_from l.s.lanes l.s.last l.k (8 - l.k) ≡ next_from l.s.lanes l.s.last 0 8
