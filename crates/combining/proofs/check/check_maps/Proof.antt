-- Each return is the first test that holds, all the others before it being passed over.
use borrow.Author.Rules.{rules}
use mathlib.Core.Path.{◌≡◌, ◌∙◌, sym, ap, subst}
use mathlib.Core.Bool.{true, ◌&&◌}
use Rattle.refusals.specs.Refusals.{first}
use Rattle.refusals.proofs.Tests.{stop, pass, not_t, not_f, by_true, by_false, both}
use Rattle.cell.specs.declared.operations.UnitCell.{UnitCell}
use Rattle.cell.specs.Operations.{cell_lengths, Sizes}
use Rattle.job.specs.Job.{valid_job}
use Rattle.job.proofs.Jobs.{valid_sizes}
use Rattle.combining.specs.Combining.{maps_tests}
use Rattle.combining.proofs.Tests.{two}
use Rattle.combining.proofs.check.check_maps.Statement.{statement}
use Rattle.combining.proofs.check.check_maps.Tie as tie

valid_job-requires : tie.Need-valid_job-requires
valid_job-requires c κs = search rules

valid_job-requires-2 : tie.Need-valid_job-requires-2
valid_job-requires-2 c κs = search rules

valid : (c : tie.Else-not-valid_job) → let a = c.args in (valid_job a.i && valid_job a.j) ≡ true
valid c = by_true _ _ (two c.valid_job.ensures c.valid_job-2.ensures) c.if-not-valid_job.false

returns-then-not-valid_job : tie.Need-returns-then-not-valid_job
returns-then-not-valid_job c = stop _ (not_f _ (by_false _ _ (two c.valid_job.ensures c.valid_job-2.ensures) c.if-not-valid_job.true))

returns-then-not-i-j : tie.Need-returns-then-not-i-j
returns-then-not-i-j c = pass 25 _ (not_t _ (valid c.before.before.before)) (stop _ (not_f _ c.if-not-i-j.true))

of_one_cell-requires : tie.Need-of_one_cell-requires
of_one_cell-requires c κs = search rules

returns-then-not-of_one_cell : tie.Need-returns-then-not-of_one_cell
returns-then-not-of_one_cell c =
    let h = c.before.before in
    pass 25 _ (not_t _ (valid h.before.before.before)) (pass 22 _ (not_t _ h.if-not-i-j.false) (stop _ (not_f _ (by_false _ _ c.of_one_cell.ensures c.if-not-of_one_cell.true))))

unit_cell-requires : tie.Need-unit_cell-requires
unit_cell-requires c κs = search rules

check_volumes-requires : tie.Need-check_volumes-requires
check_volumes-requires c κs =
    let e = c.before.before.before.before.before.before in
    let a = e.args in
    subst Sizes (sym c.unit_cell.ensures) (valid_sizes a.i (both (valid_job a.i) (valid_job a.j) (valid e)).0)

returns : tie.Need-returns
returns c =
    let o = c.before.before in
    let h = o.before.before in
    let e = h.before.before.before in
    let a = e.args in
    pass 25 _ (not_t _ (valid e)) (pass 22 _ (not_t _ h.if-not-i-j.false) (pass 27 _ (not_t _ (by_true _ _ o.of_one_cell.ensures o.if-not-of_one_cell.false))
    (c.check_volumes.ensures ∙ ap (λ (u : UnitCell). first (maps_tests u.group (cell_lengths u) a.first_map.now a.second_map.now a.room)) c.unit_cell.ensures)))

pub check_maps_spec : {M : Type 1} → statement M
check_maps_spec =
    tie.close
    (tie.spec valid_job-requires valid_job-requires-2 returns-then-not-valid_job returns-then-not-i-j of_one_cell-requires returns-then-not-of_one_cell unit_cell-requires check_volumes-requires returns)
