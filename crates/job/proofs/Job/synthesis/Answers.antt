-- Refused by the check, or the volume synthesised and the scratch cleared.
use mathlib.Core.Path.{◌∙◌, ap}
use native.Mathlib.Omega.{arith}
use lib.ListN.{length}
use Rattle.refusals.proofs.Handed.{handed_on}
use Rattle.job.specs.Answers.{worked}
use Rattle.job.proofs.Volumes.{synthesis_ready, lent, all_synthesised}
use Rattle.job.proofs.Outcomes.{synthesis_refused, synthesis_done}
use Rattle.job.proofs.Job.synthesis.Goals as goal

pub transform_volume-requires : goal.transform_volume-requires
transform_volume-requires c =
    let a = c.args in
    let l = lent (synthesis_ready a.self a.volume.now (length a.scratch.now) c.in_ok-check_synthesis.ensures).0 0 c.plan_of.result c.plan_of.ensures (omega arith) in
    record { planned = l.0; fitting = l.1 }

pub returns-in_err-check_synthesis : goal.returns-in_err-check_synthesis
returns-in_err-check_synthesis c =
    let a = c.args in
    ap (λ r. worked a.self r a.volume.now a.scratch.now) (handed_on _ _ c.from_residual.ensures.1)
    ∙ synthesis_refused a.self a.volume.now a.scratch.now _ c.in_err-check_synthesis.ensures

pub returns : goal.returns
returns c =
    let a = c.args in
    let z = c.in_ok-check_synthesis.ensures in
    synthesis_done a.self a.volume.now a.scratch.now _ _ z (c.transform_volume.ensures.0 ∙ all_synthesised a.self a.volume.now (length a.scratch.now) z c.plan_of.result c.plan_of.ensures) c.transform_volume.ensures.1
