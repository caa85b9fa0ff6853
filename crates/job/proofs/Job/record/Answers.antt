-- Refused by the check, or the images written.
use mathlib.Core.Path.{◌∙◌, ap}
use borrow.Author.Tests.{not-false, ltb-true, eqb-true}
use Rattle.refusals.proofs.Handed.{handed_on}
use Rattle.cell.specs.declared.operations.UnitCell.{UnitCell}
use Rattle.numbers.specs.Value.{value_of}
use Rattle.refusals.proofs.Tests.{Passed, passed, both}
use Rattle.cell.specs.Operations.{cell_group, cell_halves}
use Rattle.cell.specs.Consistency.{record_on}
use Rattle.job.specs.Job.{job_cell, index, record_tests}
use Rattle.job.specs.Answers.{outcome}
use Rattle.job.proofs.Jobs.{valid_modulus, valid_sizes}
use Rattle.job.proofs.check.Points.{within_of}
use Rattle.job.proofs.Reflections.{record_refused, record_written}
use Rattle.job.proofs.Job.record.Goals as goal

pub write_images-requires : goal.write_images-requires
write_images-requires c =
    let a = c.args in
    let j = a.self in
    let t = passed (record_tests j (index a.at) a.a a.b a.volume.now) tt c.in_ok-check_record.ensures in
    let s = both _ _ (not-false _ t.1.1.1.0) in
    rw c.unit_cell-cell.ensures (record {
      modulus = (valid_modulus j (not-false _ t.0), record { re = ltb-true _ _ s.0; im = ltb-true _ _ s.1 }, valid_sizes j (not-false _ t.0), within_of (job_cell j) (record { h = a.at.0; k = a.at.1; l = a.at.2 }) (not-false _ t.1.1.0));
      volume_len = eqb-true _ _ (not-false _ t.1.1.1.1.1.0);
    })

pub returns-in_err-check_record : goal.returns-in_err-check_record
returns-in_err-check_record c =
    let a = c.args in
    ap (λ r. outcome a.self r a.volume.now) (handed_on _ _ c.from_residual.ensures.1)
    ∙ record_refused a.self a.at a.volume.now a.a a.b _ c.in_err-check_record.ensures

pub returns : goal.returns
returns c =
    let a = c.args in
    record_written a.self a.at a.volume.now a.a a.b _ c.in_ok-check_record.ensures
    (c.write_images.ensures ∙ ap (λ (k : UnitCell). record_on (cell_group k) (cell_halves k) a.self.modulus (index a.at) (value_of a.self.modulus (record { re = a.a; im = a.b })) a.volume.now) c.unit_cell-cell.ensures)
