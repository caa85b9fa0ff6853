-- The numbers are the job's own.
use mathlib.Core.Path.{◌∙◌, ap₂}
use mathlib.Core.Bool.{Bool}
use Rattle.refusals.specs.Refusals.{first}
use Rattle.refusals.proofs.Tests.{by_true}
use Rattle.cell.specs.declared.operations.UnitCell.{UnitCell}
use Rattle.cell.specs.Operations.{cell_lengths, triple_of}
use Rattle.job.specs.Job.{record_tests_of}
use Rattle.job.proofs.Jobs.{cell_sizes}
use Rattle.job.proofs.Job.check_record.Goals as goal

pub check_record-requires : goal.check_record-requires
check_record-requires c = λ v. cell_sizes c.args.self c.unit_cell-cell.ensures (by_true _ _ c.valid_job.ensures v)

pub returns : goal.returns
returns c =
    let a = c.args in
    let j = a.self in
    c.check_record.ensures ∙ ap₂ (λ (b : Bool) (k : UnitCell). first (record_tests_of b j.state j.modulus k.group (cell_lengths k) (triple_of a.at) a.x.re a.x.im a.volume.now)) c.valid_job.ensures c.unit_cell-cell.ensures
