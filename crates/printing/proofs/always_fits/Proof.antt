-- Every text fits.
use Rattle.printing.proofs.Fits.{always_fits}
use Rattle.printing.proofs.always_fits.Statement.{statement}
use Rattle.printing.proofs.always_fits.Tie as tie

returns : tie.Need-returns
returns c = always_fits

pub always_fits_spec : {M : Type 1} → statement M
always_fits_spec = tie.close (tie.spec returns)
