use Rattle.std.proofs.Common.{refl}
use Rattle.scheduler.proofs.Contracts.{tallied_start, tallied_next}
use Rattle.scheduler.proofs.valid.judge_lanes.Goals as goal

pub loop-lane-init : goal.loop-lane-init
loop-lane-init c = tallied_start c.args.s.lanes

pub loop-lane-preserved : goal.loop-lane-preserved
loop-lane-preserved c =
    tallied_next c.args.s.lanes c.loop-lane.lane-index _ refl c.loop-lane.invariant c.judge_lane-one.ensures
