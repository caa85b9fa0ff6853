-- Refused by the check, or the lane freed.
use mathlib.Core.Path.{ap, ◌∙◌}
use mathlib.Core.List.{[]}
use Rattle.refusals.proofs.Handed.{handed_on}
use Rattle.scheduler.specs.Answers.{lane_outcome}
use Rattle.scheduler.proofs.Steps.{withdraws, below_eight}
use Rattle.scheduler.proofs.Outcomes.{withdraw_refused, withdraw_done}
use Rattle.scheduler.proofs.Scheduler.withdraw.Goals as goal

pub overflow_sub-lane : goal.overflow_sub-lane
overflow_sub-lane c = (withdraws c.args.self c.args.lane c.in_ok-check_withdraw.ensures).number.0

pub with_lane-requires : goal.with_lane-requires
with_lane-requires c = below_eight (withdraws c.args.self c.args.lane c.in_ok-check_withdraw.ensures).number

pub returns-in_err-check_withdraw : goal.returns-in_err-check_withdraw
returns-in_err-check_withdraw c =
    ap (λ r. lane_outcome c.args.self r [] []) (handed_on _ _ c.from_residual.ensures.1)
    ∙ withdraw_refused c.args.self c.args.lane _ c.in_err-check_withdraw.ensures

pub returns : goal.returns
returns c = withdraw_done c.args.self c.args.lane _ c.free_lane.result c.in_ok-check_withdraw.ensures c.free_lane.ensures c.with_lane.ensures
