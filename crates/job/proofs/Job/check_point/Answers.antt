-- The numbers are the job's own.
use mathlib.Core.Path.{◌∙◌, ap₂}
use mathlib.Core.Bool.{Bool}
use Rattle.refusals.specs.Refusals.{first}
use Rattle.refusals.proofs.Tests.{by_true}
use Rattle.cell.specs.declared.operations.UnitCell.{UnitCell}
use Rattle.cell.specs.Operations.{cell_lengths, point_of}
use Rattle.job.specs.Job.{point_tests_of}
use Rattle.job.proofs.Jobs.{cell_sizes}
use Rattle.job.proofs.Job.check_point.Goals as goal

pub check_point-requires : goal.check_point-requires
check_point-requires c = λ v. cell_sizes c.args.self c.unit_cell-cell.ensures (by_true _ _ c.valid_job.ensures v)

pub returns : goal.returns
returns c =
    let a = c.args in
    let j = a.self in
    c.check_point.ensures ∙ ap₂ (λ (b : Bool) (k : UnitCell). first (point_tests_of b j.state j.modulus k.group (cell_lengths k) (point_of a.at) a.volume.now)) c.valid_job.ensures c.unit_cell-cell.ensures
