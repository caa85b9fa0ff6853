-- The volume's tests in turn; one that is no map is only measured.
use mathlib.Core.Path.{◌≡◌}
use mathlib.Core.Bool.{true}
use lib.ListN.{length}
use lib.Dec.{eqb}
use borrow.Author.Tests.{eqb-true}
use Rattle.refusals.proofs.Tests.{stop, not_f, by_true, by_false}
use Rattle.cell.specs.Operations.{cell_group, cell_lengths, cell_halves}
use Rattle.cell.specs.Volume.{volume_length}
use Rattle.job.proofs.check.Openings.{volume_collects, volume_held}
use Rattle.job.proofs.check.open.check_volume.Statement.{statement}
use Rattle.job.proofs.check.open.check_volume.Tie as tie

-- the volume is as long as it must be
fit : (c : tie.Else-not-fits) → let a = c.args in eqb (length a.volume.now) (volume_length (cell_group a.cell) (cell_halves a.cell)) ≡ true
fit c = by_true _ _ c.fits.ensures c.if-not-fits.false

fits-requires : tie.Need-fits-requires
fits-requires c κs = c.requires.0

returns-then-not-fits : tie.Need-returns-then-not-fits
returns-then-not-fits c = stop _ (not_f _ (by_false _ _ c.fits.ensures c.if-not-fits.true))

returns-then-kind-ne1 : tie.Need-returns-then-kind-ne1
returns-then-kind-ne1 c =
    let t = c.before in
    let a = t.args in
    volume_collects a.modulus a.cell.group (cell_lengths a.cell) a.kind a.volume.now (fit t) c.if-kind-ne1.true

check_map-requires : tie.Need-check_map-requires
check_map-requires c κs =
    let t = c.before in
    let s = t.requires in
    (record { sizes = s.0; long = eqb-true _ _ (fit t) }, s.1)

returns : tie.Need-returns
returns c =
    let u = c.before in
    let t = u.before in
    let a = t.args in
    volume_held a.modulus a.cell.group (cell_lengths a.cell) a.kind a.volume.now (fit t) u.if-kind-ne1.false c.check_map.ensures

pub check_volume_spec : {M : Type 1} → statement M
check_volume_spec =
    tie.close
    (tie.spec fits-requires returns-then-not-fits returns-then-kind-ne1 check_map-requires returns)
