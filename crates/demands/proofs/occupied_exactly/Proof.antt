use Rattle.demands.proofs.Starts.{occupied_exactly}
use Rattle.demands.proofs.occupied_exactly.Statement.{statement}
use Rattle.demands.proofs.occupied_exactly.Tie as tie

returns : tie.Need-returns
returns c = occupied_exactly

pub occupied_exactly_spec : {M : Type 1} → statement M
occupied_exactly_spec = tie.close (tie.spec returns)
