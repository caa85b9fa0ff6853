-- The job's own tests, the record's, the volume's in turn.
use borrow.Author.Tests.{not-false, eq-eqb, ne_eqb}
use Rattle.refusals.proofs.Handed.{handed_number}
use Rattle.refusals.proofs.Tests.{stop, pass, not_t, not_f, passed, append_stop, not_zero}
use Rattle.cell.specs.Operations.{cell_lengths, triple_of}
use Rattle.job.specs.Job.{own_tests, orbit_tests}
use Rattle.job.proofs.check.Points.{within_of}
use Rattle.job.proofs.check.record.check_record.Goals as goal

pub returns-then-not-valid : goal.returns-then-not-valid
returns-then-not-valid c = stop _ (not_f _ c.if-not-valid.true)

pub returns-then-state-ne0 : goal.returns-then-state-ne0
returns-then-state-ne0 c = pass 25 _ (not_t _ c.if-not-valid.false) (stop _ (not_f _ (ne_eqb _ _ c.if-state-ne0.true)))

pub check_own-requires : goal.check_own-requires
check_own-requires c = c.requires c.if-not-valid.false

pub check_orbit-requires : goal.check_orbit-requires
check_orbit-requires c =
    let a = c.args in
    let p = passed (own_tests a.modulus a.cell.group (cell_lengths a.cell) (triple_of a.at) a.x.re a.x.im) tt c.in_ok-check_own.ensures in
    ((c.requires c.if-not-valid.false).0, within_of a.cell a.at (not-false _ p.0))

pub returns-in_err-check_own : goal.returns-in_err-check_own
returns-in_err-check_own c =
    let a = c.args in
    handed_number _ _ c.from_residual.ensures.1
    (pass 25 _ (not_t _ c.if-not-valid.false) (pass 21 _ (not_t _ (eq-eqb _ _ c.if-state-ne0.false))
    (append_stop (own_tests a.modulus a.cell.group (cell_lengths a.cell) (triple_of a.at) a.x.re a.x.im) (orbit_tests a.cell.group (cell_lengths a.cell) (triple_of a.at) a.volume.now) (not_zero _) c.in_err-check_own.ensures)))

pub returns : goal.returns
returns c =
    let a = c.args in
    let p = passed (own_tests a.modulus a.cell.group (cell_lengths a.cell) (triple_of a.at) a.x.re a.x.im) tt c.in_ok-check_own.ensures in
    pass 25 _ (not_t _ c.if-not-valid.false) (pass 21 _ (not_t _ (eq-eqb _ _ c.if-state-ne0.false)) (pass 10 _ p.0 (pass 7 _ p.1.0 (pass 12 _ p.1.1.0 c.check_orbit.ensures))))
