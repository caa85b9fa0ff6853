use Rattle.demands.proofs.Reachable.{impossible_exactly}
use Rattle.demands.proofs.impossible_exactly.Statement.{statement}
use Rattle.demands.proofs.impossible_exactly.Tie as tie

returns : tie.Need-returns
returns c = impossible_exactly

pub impossible_exactly_spec : {M : Type 1} → statement M
impossible_exactly_spec = tie.close (tie.spec returns)
