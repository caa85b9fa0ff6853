use Rattle.demands.proofs.Restoring.{maps_real}
use Rattle.demands.proofs.maps_real.Statement.{statement}
use Rattle.demands.proofs.maps_real.Tie as tie

returns : tie.Need-returns
returns c = maps_real

pub maps_real_spec : {M : Type 1} → statement M
maps_real_spec = tie.close (tie.spec returns)
