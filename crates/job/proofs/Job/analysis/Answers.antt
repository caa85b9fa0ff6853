-- Refused by the check, or the volume analysed and the scratch cleared.
use mathlib.Core.Path.{◌∙◌, ap}
use native.Mathlib.Omega.{arith}
use lib.ListN.{length}
use Rattle.refusals.proofs.Handed.{handed_on}
use Rattle.job.specs.Answers.{worked}
use Rattle.job.proofs.Volumes.{analysis_ready, lent, all_analysed}
use Rattle.job.proofs.Outcomes.{analysis_refused, analysis_done}
use Rattle.job.proofs.Job.analysis.Goals as goal

pub transform_volume-requires : goal.transform_volume-requires
transform_volume-requires c =
    let a = c.args in
    let l = lent (analysis_ready a.self a.volume.now (length a.scratch.now) c.in_ok-check_analysis.ensures).0 1 c.plan_of.result c.plan_of.ensures (omega arith) in
    record { planned = l.0; fitting = l.1 }

pub returns-in_err-check_analysis : goal.returns-in_err-check_analysis
returns-in_err-check_analysis c =
    let a = c.args in
    ap (λ r. worked a.self r a.volume.now a.scratch.now) (handed_on _ _ c.from_residual.ensures.1)
    ∙ analysis_refused a.self a.volume.now a.scratch.now _ c.in_err-check_analysis.ensures

pub returns : goal.returns
returns c =
    let a = c.args in
    let z = c.in_ok-check_analysis.ensures in
    analysis_done a.self a.volume.now a.scratch.now _ _ z (c.transform_volume.ensures.0 ∙ all_analysed a.self a.volume.now (length a.scratch.now) z c.plan_of.result c.plan_of.ensures) c.transform_volume.ensures.1
