-- Refused by the check, or the factor at the index.
use mathlib.Core.Path.{◌∙◌, ap}
use borrow.Author.Tests.{not-false, eqb-true}
use Rattle.refusals.proofs.Handed.{handed_on}
use Rattle.cell.specs.declared.operations.UnitCell.{UnitCell}
use Rattle.numbers.specs.Value.{pair_of}
use Rattle.refusals.proofs.Tests.{Passed, passed}
use Rattle.cell.specs.Volume.{factors_in}
use Rattle.cell.specs.Operations.{cell_group, cell_halves}
use Rattle.job.specs.Job.{job_cell, index}
use Rattle.job.specs.TestSteps.{factor_tests}
use Rattle.job.specs.Answers.{said_factor}
use Rattle.job.proofs.Jobs.{valid_modulus, valid_sizes}
use Rattle.job.proofs.check.Points.{within_of}
use Rattle.job.proofs.Reflections.{factor_refused, factor_read}
use Rattle.job.proofs.Job.factor.Goals as goal

pub factor_at-requires : goal.factor_at-requires
factor_at-requires c =
    let a = c.args in
    let j = a.self in
    let p = passed (factor_tests j (index a.at) a.volume.now) tt c.in_ok-check_factor.ensures in
    let t = p.1.1 in
    rw c.unit_cell-cell.ensures (record {
      modulus = (valid_modulus j (not-false _ p.0), valid_sizes j (not-false _ p.0), within_of (job_cell j) (record { h = a.at.0; k = a.at.1; l = a.at.2 }) (not-false _ t.0));
      volume_len = eqb-true _ _ (not-false _ t.1.0);
      j_value = not-false _ t.1.1.0;
    })

pub returns-in_err-check_factor : goal.returns-in_err-check_factor
returns-in_err-check_factor c =
    ap said_factor (handed_on _ _ c.from_residual.ensures.1)
    ∙ factor_refused c.args.self c.args.at c.args.volume.now _ c.in_err-check_factor.ensures

pub returns : goal.returns
returns c =
    let a = c.args in
    factor_read a.self a.at a.volume.now c.factor_at.result c.in_ok-check_factor.ensures
    (c.factor_at.ensures ∙ ap (λ (k : UnitCell). pair_of (factors_in (cell_group k) (cell_halves k) a.self.modulus a.volume.now a.at.0 a.at.1 a.at.2)) c.unit_cell-cell.ensures)
