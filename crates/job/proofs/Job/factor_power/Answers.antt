-- Refused by the check, or the sum over the stored numbers.
use mathlib.Core.Path.{◌∙◌, ap}
use Rattle.refusals.proofs.Handed.{handed_on}
use Rattle.cell.specs.declared.operations.UnitCell.{UnitCell}
use Rattle.cell.specs.Operations.{cell_group, cell_halves}
use Rattle.lengths.specs.Lengths.{scratch_length}
use Rattle.power.specs.Power.{factor_power}
use Rattle.job.specs.Answers.{said_power}
use Rattle.job.proofs.Jobs.{valid_modulus, valid_sizes}
use Rattle.job.proofs.Volumes.{synthesis_ready}
use Rattle.job.proofs.Powers.{as_synthesis, factor_power_refused, factor_power_said}
use Rattle.job.proofs.Job.factor_power.Goals as goal

pub factor_power-requires : goal.factor_power-requires
factor_power-requires c =
    let j = c.args.self in
    let r = synthesis_ready j c.args.volume.now scratch_length c.in_ok-check_synthesis.ensures in
    let v = r.0.valid in
    rw c.unit_cell.ensures (record { volume = (record { sizes = valid_sizes j v; long = r.0.long }, valid_modulus j v, r.0.small); volume_value = r.1 })

pub returns-in_err-check_synthesis : goal.returns-in_err-check_synthesis
returns-in_err-check_synthesis c =
    ap said_power (handed_on _ _ c.from_residual.ensures.1)
    ∙ factor_power_refused c.args.self c.args.volume.now _ (c.in_err-check_synthesis.ensures ∙ as_synthesis c.args.self c.args.volume.now)

pub returns : goal.returns
returns c =
    let a = c.args in
    factor_power_said a.self a.volume.now c.factor_power.result (c.in_ok-check_synthesis.ensures ∙ as_synthesis a.self a.volume.now)
    (c.factor_power.ensures ∙ ap (λ (k : UnitCell). factor_power (cell_group k) (cell_halves k) a.self.modulus a.volume.now) c.unit_cell.ensures)
