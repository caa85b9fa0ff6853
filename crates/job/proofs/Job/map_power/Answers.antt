-- Refused by the check, or the sum over the stored numbers.
use mathlib.Core.Path.{◌∙◌, ap}
use Rattle.refusals.proofs.Handed.{handed_on}
use Rattle.cell.specs.declared.operations.UnitCell.{UnitCell}
use Rattle.cell.specs.Operations.{cell_group, cell_halves}
use Rattle.lengths.specs.Lengths.{scratch_length}
use Rattle.power.specs.Power.{map_power}
use Rattle.job.specs.Answers.{said_power}
use Rattle.job.proofs.Jobs.{valid_modulus, valid_sizes}
use Rattle.job.proofs.Volumes.{analysis_ready}
use Rattle.job.proofs.Powers.{as_analysis, map_power_refused, map_power_said}
use Rattle.job.proofs.Job.map_power.Goals as goal

pub map_power-requires : goal.map_power-requires
map_power-requires c =
    let j = c.args.self in
    let r = analysis_ready j c.args.volume.now scratch_length c.in_ok-check_analysis.ensures in
    let v = r.0.valid in
    rw c.unit_cell.ensures (record { sizes = valid_sizes j v; long = r.0.long }, valid_modulus j v, r.0.small)

pub returns-in_err-check_analysis : goal.returns-in_err-check_analysis
returns-in_err-check_analysis c =
    ap said_power (handed_on _ _ c.from_residual.ensures.1)
    ∙ map_power_refused c.args.self c.args.volume.now _ (c.in_err-check_analysis.ensures ∙ as_analysis c.args.self c.args.volume.now)

pub returns : goal.returns
returns c =
    let a = c.args in
    map_power_said a.self a.volume.now c.map_power.result (c.in_ok-check_analysis.ensures ∙ as_analysis a.self a.volume.now)
    (c.map_power.ensures ∙ ap (λ (k : UnitCell). map_power (cell_group k) (cell_halves k) a.self.modulus a.volume.now) c.unit_cell.ensures)
