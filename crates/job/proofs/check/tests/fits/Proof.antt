-- The volume's length against the length that is asked for.
use mathlib.Core.Path.{ap}
use Prim.Native.Nat.{ℕ}
use lib.ListN.{length}
use lib.Dec.{eqb}
use Rattle.header.proofs.Headers.{short_lengths}
use Rattle.job.proofs.check.tests.fits.Statement.{statement}
use Rattle.job.proofs.check.tests.fits.Tie as tie

volume_length-requires : tie.Need-volume_length-requires
volume_length-requires c κs = short_lengths c.before.requires

returns : tie.Need-returns
returns c = ap (λ (n : ℕ). eqb (length c.before.before.args.volume.now) n) c.volume_length.ensures

pub fits_spec : {M : Type 1} → statement M
fits_spec = tie.close (tie.spec volume_length-requires returns)
