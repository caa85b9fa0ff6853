-- Each return is the first test that holds, all the others before it being passed over.
use native.Mathlib.Omega.{arith}
use mathlib.Core.Path.{◌≡◌, sym, subst}
use mathlib.Core.Bool.{Bool, true}
use mathlib.Core.List.{List}
use Prim.Native.Nat.{ℕ, ◌<◌}
use borrow.Author.Tests.{eqb-true, eq-eqb, ne_eqb}
use Rattle.algebra.specs.cells.Cell.{J}
use Rattle.refusals.specs.Refusals.{first}
use Rattle.refusals.proofs.Tests.{stop, pass, none, not_t, not_f, by_true, by_false}
use Rattle.cell.specs.declared.operations.UnitCell.{UnitCell}
use Rattle.cell.specs.Operations.{cell_lengths, point_of}
use Rattle.header.proofs.Headers.{place_small}
use Rattle.job.specs.Job.{within, density_tests, point_tests_of}
use Rattle.job.proofs.check.Numbers.{number_above, number_below}
use Rattle.job.proofs.check.Points.{point_within_of}
use Rattle.job.proofs.check.point.check_point.Goals as goal

-- the point is inside the cell: its number decides
number : {ok : Bool} {state : ℕ} (m : ℕ) (k : UnitCell) (x : J) (v : List ℕ) → ok ≡ true → state ≡ 2 → within (cell_lengths k) x ≡ true → {n : ℕ} → n ≡ first (density_tests m k.group (cell_lengths k) x v) → n ≡ first (point_tests_of ok state m k.group (cell_lengths k) x v)
number m k x v ok s i e = pass 25 _ (not_t _ ok) (pass 22 _ (not_t _ (eq-eqb _ _ s)) (pass 10 _ (not_t _ i) e))

pub returns-then-not-valid : goal.returns-then-not-valid
returns-then-not-valid c = stop _ (not_f _ c.if-not-valid.true)

pub returns-then-state-ne2 : goal.returns-then-state-ne2
returns-then-state-ne2 c = pass 25 _ (not_t _ c.if-not-valid.false) (stop _ (not_f _ (ne_eqb _ _ c.if-state-ne2.true)))

pub returns-then-not-inside : goal.returns-then-not-inside
returns-then-not-inside c = pass 25 _ (not_t _ c.if-not-valid.false) (pass 22 _ (not_t _ (eq-eqb _ _ c.if-state-ne2.false)) (stop _ (not_f _ (by_false _ _ c.inside.ensures c.if-not-inside.true))))

pub fits-requires : goal.fits-requires
fits-requires c = (c.requires c.if-not-valid.false).0

pub returns-then-not-fits : goal.returns-then-not-fits
returns-then-not-fits c =
    let a = c.args in
    number a.modulus a.cell (point_of a.at) a.volume.now c.if-not-valid.false c.if-state-ne2.false (by_true _ _ c.inside.ensures c.if-not-inside.false)
    (stop _ (not_f _ (by_false _ _ c.fits.ensures c.if-not-fits.true)))

pub modulus-p-requires : goal.modulus-p-requires
modulus-p-requires c = (c.requires c.if-not-valid.false).1

pub density_place-place-requires : goal.density_place-place-requires
density_place-place-requires c = ((c.requires c.if-not-valid.false).0, point_within_of c.args.cell c.args.at (by_true _ _ c.inside.ensures c.if-not-inside.false))

pub offset_bounds-volume-place : goal.offset_bounds-volume-place
offset_bounds-volume-place c = omega (arith, place_small _ (c.requires c.if-not-valid.false).0 c.density_place-place.ensures.1)

pub bounds-volume-place : goal.bounds-volume-place
bounds-volume-place c = subst (λ (n : ℕ). c.density_place-place.result < n) (sym (eqb-true _ _ (by_true _ _ c.fits.ensures c.if-not-fits.false))) c.density_place-place.ensures.1

pub returns-then-p-volume : goal.returns-then-p-volume
returns-then-p-volume c =
    let a = c.args in
    number a.modulus a.cell (point_of a.at) a.volume.now c.if-not-valid.false c.if-state-ne2.false (by_true _ _ c.inside.ensures c.if-not-inside.false)
    (pass 6 _ (not_t _ (by_true _ _ c.fits.ensures c.if-not-fits.false)) (stop _ (not_f _ (number_above a.volume.now c.density_place-place.ensures.0 c.modulus-p.ensures.0 c.if-p-volume.true))))

pub returns : goal.returns
returns c =
    let a = c.args in
    number a.modulus a.cell (point_of a.at) a.volume.now c.if-not-valid.false c.if-state-ne2.false (by_true _ _ c.inside.ensures c.if-not-inside.false)
    (pass 6 _ (not_t _ (by_true _ _ c.fits.ensures c.if-not-fits.false)) (pass 7 _ (not_t _ (number_below a.volume.now c.density_place-place.ensures.0 c.modulus-p.ensures.0 c.if-p-volume.false)) none))
