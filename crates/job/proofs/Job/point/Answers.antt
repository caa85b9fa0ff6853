-- Refused by the check, or the number at the point's place, with its sign.
use mathlib.Core.Path.{◌≡◌, ◌∙◌, sym, ap, subst, subst₂}
use Prim.Native.Nat.{ℕ, ◌<◌}
use native.Mathlib.Omega.{arith}
use lib.ListN.{get_or}
use borrow.Author.Tests.{not-false, eqb-true, ltb-true}
use mir.Syntax.{w32}
use mir.ValLaws.{to_z-of_z}
use Rattle.refusals.proofs.Handed.{handed_on}
use Rattle.cell.specs.declared.operations.UnitCell.{UnitCell}
use Rattle.job.specs.declared.Job.{Job}
use Rattle.job.specs.declared.GridPoint.{GridPoint}
use Rattle.refusals.proofs.Tests.{Passed, passed}
use Rattle.cell.specs.Volume.{volume_length, density_place}
use Rattle.cell.specs.Operations.{cell_group, cell_halves, Sizes}
use Rattle.signed.specs.Integers.{centred}
use Rattle.job.specs.Job.{job_cell, group_in, halves, position, density}
use Rattle.job.specs.TestSteps.{point_tests}
use Rattle.job.specs.Answers.{said_point}
use Rattle.job.proofs.Jobs.{valid_modulus, valid_sizes}
use Rattle.header.proofs.Headers.{place_small}
use Rattle.job.proofs.check.Points.{point_within_of}
use Rattle.job.proofs.Points.{point_refused, point_read}
use Rattle.job.proofs.Job.point.Goals as goal

-- the point's place, in the job's own words
found : (j : Job) (at : GridPoint) (k : UnitCell) (q : ℕ) → k ≡ job_cell j
    → (q ≡ density_place (cell_group k) (cell_halves k) (position at)) × (q < volume_length (cell_group k) (cell_halves k))
    → (q ≡ density_place (group_in j) (halves j) (position at)) × (q < volume_length (group_in j) (halves j))
found j at k q e h = subst (λ (k : UnitCell). (q ≡ density_place (cell_group k) (cell_halves k) (position at)) × (q < volume_length (cell_group k) (cell_halves k))) e h

pub density_place-place-requires : goal.density_place-place-requires
density_place-place-requires c =
    let j = c.args.self in
    let t = passed (point_tests j (position c.args.at) c.args.volume.now) tt c.in_ok-check_point.ensures in
    rw c.unit_cell-cell.ensures (valid_sizes j (not-false _ t.0), point_within_of (job_cell j) (record { x = c.args.at.0; y = c.args.at.1; z = c.args.at.2 }) (not-false _ t.1.1.0))

pub modulus-requires : goal.modulus-requires
modulus-requires c =
    let j = c.args.self in
    let t = passed (point_tests j (position c.args.at) c.args.volume.now) tt c.in_ok-check_point.ensures in
    valid_modulus j (not-false _ t.0)

pub offset_bounds-volume-place : goal.offset_bounds-volume-place
offset_bounds-volume-place c =
    let j = c.args.self in
    let t = passed (point_tests j (position c.args.at) c.args.volume.now) tt c.in_ok-check_point.ensures in
    let f = found j c.args.at _ c.density_place-place.result c.unit_cell-cell.ensures c.density_place-place.ensures in
    omega (arith, place_small _ (valid_sizes j (not-false _ t.0)) f.1)

pub bounds-volume-place : goal.bounds-volume-place
bounds-volume-place c =
    let j = c.args.self in
    let t = passed (point_tests j (position c.args.at) c.args.volume.now) tt c.in_ok-check_point.ensures in
    let f = found j c.args.at _ c.density_place-place.result c.unit_cell-cell.ensures c.density_place-place.ensures in
    subst (λ (n : ℕ). c.density_place-place.result < n) (sym (eqb-true _ _ (not-false _ t.1.1.1.0))) f.1

pub centre-requires : goal.centre-requires
centre-requires c =
    let j = c.args.self in
    let v = c.args.volume.now in
    let t = passed (point_tests j (position c.args.at) v) tt c.in_ok-check_point.ensures in
    let f = found j c.args.at _ c.density_place-place.result c.unit_cell-cell.ensures c.density_place-place.ensures in
    (subst₂ (λ (q n : ℕ). get_or v q 0 < n) (sym f.0) (sym c.modulus.ensures.0) (ltb-true _ _ (not-false _ t.1.1.1.1.0)), omega (arith, c.modulus.ensures))

pub returns-in_err-check_point : goal.returns-in_err-check_point
returns-in_err-check_point c =
    ap said_point (handed_on _ _ c.from_residual.ensures.1)
    ∙ point_refused c.args.self c.args.at c.args.volume.now _ c.in_err-check_point.ensures

pub returns : goal.returns
returns c =
    let j = c.args.self in
    let v = c.args.volume.now in
    let z = c.in_ok-check_point.ensures in
    let f = found j c.args.at _ c.density_place-place.result c.unit_cell-cell.ensures c.density_place-place.ensures in
    let e = to_z-of_z w32 c.centre.result (record { sfits = c.centre.type_inv }) ∙ c.centre.ensures in
    ap density (e ∙ ap (λ n. centred n (get_or v c.density_place-place.result 0)) c.modulus.ensures.0) ∙ point_read j c.args.at v c.density_place-place.result z f.0
