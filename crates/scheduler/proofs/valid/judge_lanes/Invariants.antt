-- The tally is that of the lanes before this one.
use Rattle.scheduler.proofs.Contracts.{Tallied}
use Rattle.scheduler.proofs.valid.judge_lanes.Given as goal

abbrev pub invariant-loop-lane : goal.invariant-loop-lane
invariant-loop-lane l = Tallied l.fn.s.lanes l.lane-index l.valid l.held l.served
