-- The numbers are the job's own.
use mathlib.Core.Path.{◌∙◌, ap₂}
use mathlib.Core.Bool.{Bool}
use Rattle.refusals.specs.Refusals.{first}
use Rattle.refusals.proofs.Tests.{by_true}
use Rattle.cell.specs.declared.operations.UnitCell.{UnitCell}
use Rattle.cell.specs.Operations.{cell_lengths, triple_of}
use Rattle.job.specs.Job.{factor_tests_of}
use Rattle.job.proofs.Jobs.{cell_sizes}
use Rattle.job.proofs.Job.check_factor.Goals as goal

pub check_factor-requires : goal.check_factor-requires
check_factor-requires c = λ v. cell_sizes c.args.self c.unit_cell-cell.ensures (by_true _ _ c.valid_job.ensures v)

pub returns : goal.returns
returns c =
    let a = c.args in
    let j = a.self in
    c.check_factor.ensures ∙ ap₂ (λ (b : Bool) (k : UnitCell). first (factor_tests_of b j.state j.modulus k.group (cell_lengths k) (triple_of a.at) a.volume.now)) c.valid_job.ensures c.unit_cell-cell.ensures
