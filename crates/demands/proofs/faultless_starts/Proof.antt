use Rattle.demands.proofs.Starts.{faultless_starts}
use Rattle.demands.proofs.faultless_starts.Statement.{statement}
use Rattle.demands.proofs.faultless_starts.Tie as tie

returns : tie.Need-returns
returns c = faultless_starts

pub faultless_starts_spec : {M : Type 1} → statement M
faultless_starts_spec = tie.close (tie.spec returns)
