-- Refused by the check, or the lane set and the scratch cleared.
use mathlib.Core.Path.{refl, ap, ◌∙◌}
use lib.ListN.{length}
use Rattle.lengths.specs.Lengths.{cleared}
use Rattle.refusals.proofs.Handed.{handed_on}
use Rattle.job.proofs.Volumes.{synthesis_ready}
use Rattle.scheduler.specs.Answers.{lane_outcome}
use Rattle.scheduler.proofs.Steps.{enters, below_eight}
use Rattle.scheduler.proofs.Outcomes.{enter_refused, enter_done}
use Rattle.scheduler.proofs.Scheduler.enter.Goals as goal

pub clear-requires : goal.clear-requires
clear-requires c =
    let a = c.args in
    let e = enters a.self a.lane a.job a.volume.now (length a.scratch.now) c.in_ok-check_enter.ensures in
    (synthesis_ready a.job a.volume.now (length a.scratch.now) e.synthesis).0.room

pub line_count-requires : goal.line_count-requires
line_count-requires c = let a = c.args in (enters a.self a.lane a.job a.volume.now (length a.scratch.now) c.in_ok-check_enter.ensures).runs.valid

pub overflow_sub-lane : goal.overflow_sub-lane
overflow_sub-lane c = let a = c.args in (enters a.self a.lane a.job a.volume.now (length a.scratch.now) c.in_ok-check_enter.ensures).number.0

pub bounds-entered-lane : goal.bounds-entered-lane
bounds-entered-lane c = let a = c.args in below_eight (enters a.self a.lane a.job a.volume.now (length a.scratch.now) c.in_ok-check_enter.ensures).number

pub returns-in_err-check_enter : goal.returns-in_err-check_enter
returns-in_err-check_enter c =
    let a = c.args in
    ap (λ r. lane_outcome a.self r a.volume.now a.scratch.now) (handed_on _ _ c.from_residual.ensures.1)
    ∙ enter_refused a.self a.lane a.job a.volume.now a.scratch.now _ c.in_err-check_enter.ensures

pub returns : goal.returns
unfolding cleared
returns c =
    let a = c.args in
    enter_done a.self a.lane a.job a.volume.now a.scratch.now _ _ c.line_count.result c.in_ok-check_enter.ensures c.line_count.ensures refl c.clear.ensures
