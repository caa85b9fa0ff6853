-- Refused by its own numbers, or what the marks say.
use mathlib.Core.Path.{refl, ◌∙◌, sym}
use borrow.Author.Tests.{not-false}
use Rattle.refusals.proofs.Handed.{handed_number}
use Rattle.refusals.proofs.Tests.{pass, passed, append_stop, not_zero}
use Rattle.cell.specs.Operations.{cell_lengths, triple_of}
use Rattle.job.specs.Job.{own_tests}
use Rattle.job.proofs.check.Points.{within_of}
use Rattle.factor_file.specs.File.{orbit_seen}
use Rattle.factor_file.proofs.records.judge_record.Goals as goal

pub mark_orbit-requires : goal.mark_orbit-requires
mark_orbit-requires c =
    let a = c.args in
    let p = passed (own_tests a.modulus a.cell.group (cell_lengths a.cell) (triple_of a.j) a.x.re a.x.im) tt c.in_ok-check_own.ensures in
    (c.requires.0, within_of a.cell a.j (not-false _ p.0))

pub returns-in_err-check_own : goal.returns-in_err-check_own
returns-in_err-check_own c =
    let a = c.args in
    let n = handed_number _ _ c.from_residual.ensures.1 refl in
    λ before m. (
      handed_number _ _ c.from_residual.ensures.1 (append_stop (own_tests a.modulus a.cell.group (cell_lengths a.cell) (triple_of a.j) a.x.re a.x.im) (orbit_seen a.cell.group (cell_lengths a.cell) before (triple_of a.j)) (not_zero _) c.in_err-check_own.ensures),
      λ z. absurd (not_zero _ (sym n ∙ z)),
    )

pub returns : goal.returns
returns c =
    let a = c.args in
    let p = passed (own_tests a.modulus a.cell.group (cell_lengths a.cell) (triple_of a.j) a.x.re a.x.im) tt c.in_ok-check_own.ensures in
    λ before m.
    let r = c.mark_orbit.ensures before m in
    (pass 10 _ p.0 (pass 7 _ p.1.0 (pass 12 _ p.1.1.0 r.0)), r.1)
