-- The step of the next factor.
use Rattle.plain.proofs.Stepping.{step_splits, step_long, step_left}
use Rattle.plain.proofs.next_step.Goals as goal

pub step-requires-clause-splits : goal.step-requires-clause-splits
step-requires-clause-splits c = step_splits c.requires.ahead c.next-next.ensures

pub step-requires-clause-from_len : goal.step-requires-clause-from_len
step-requires-clause-from_len c =
    let e = c.next-next.ensures in
    (step_long c.requires.ahead e c.requires.from_len.0, step_long c.requires.ahead e c.requires.from_len.1)

pub returns-clause-to_after : goal.returns-clause-to_after
returns-clause-to_after c = step_left c.requires.ahead c.next-next.ensures c.args.m _ c.args.from.now c.step.ensures.to_after
