-- Each return is the first test that holds, all the others before it being passed over.
use mathlib.Core.Path.{◌≡◌}
use mathlib.Core.Bool.{true}
use lib.ListN.{length}
use lib.Dec.{eqb}
use borrow.Author.Tests.{eqb-true}
use Rattle.refusals.proofs.Tests.{stop, pass, none, not_t, not_f, by_true, by_false}
use Rattle.cell.specs.Operations.{cell_group, cell_halves}
use Rattle.cell.specs.Volume.{volume_length}
use Rattle.job.proofs.check.orbit.check_orbit.Statement.{statement}
use Rattle.job.proofs.check.orbit.check_orbit.Tie as tie

fit : (c : tie.Else-not-fits) → let a = c.args in eqb (length a.volume.now) (volume_length (cell_group a.cell) (cell_halves a.cell)) ≡ true
fit c = by_true _ _ c.fits.ensures c.if-not-fits.false

fits-requires : tie.Need-fits-requires
fits-requires c κs = c.requires.0

returns-then-not-fits : tie.Need-returns-then-not-fits
returns-then-not-fits c = stop _ (not_f _ (by_false _ _ c.fits.ensures c.if-not-fits.true))

orbit_free-requires : tie.Need-orbit_free-requires
orbit_free-requires c κs = let h = c.requires in ((h.0, h.1), eqb-true _ _ (fit c))

returns-then-not-orbit_free : tie.Need-returns-then-not-orbit_free
returns-then-not-orbit_free c = pass 6 _ (not_t _ (fit c.before.before)) (stop _ (not_f _ (by_false _ _ c.orbit_free.ensures c.if-not-orbit_free.true)))

returns : tie.Need-returns
returns c = pass 6 _ (not_t _ (fit c.before.before)) (pass 24 _ (not_t _ (by_true _ _ c.orbit_free.ensures c.if-not-orbit_free.false)) none)

pub check_orbit_spec : {M : Type 1} → statement M
check_orbit_spec = tie.close (tie.spec fits-requires returns-then-not-fits orbit_free-requires returns-then-not-orbit_free returns)
