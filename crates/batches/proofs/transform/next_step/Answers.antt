-- The step of the next factor.
use Rattle.plain.proofs.Stepping.{step_splits}
use Rattle.batches.proofs.DrivingLanes.{batch_long, batch_left}
use Rattle.batches.proofs.transform.next_step.Goals as goal

pub step-requires-clause-splits : goal.step-requires-clause-splits
step-requires-clause-splits c =
    let a = c.requires.ahead in
    let e = c.next-next.ensures in
    (step_splits a.0 e, batch_long a.0 e a.1, batch_long a.0 e a.2)

pub returns-clause-stepped_lanes : goal.returns-clause-stepped_lanes
returns-clause-stepped_lanes c = (batch_left c.requires.ahead.0 c.next-next.ensures c.step.ensures.stepped_lanes, c.step.ensures.by_index)
