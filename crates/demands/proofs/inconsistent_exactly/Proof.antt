use Rattle.demands.proofs.Inconsistent.{inconsistent_exactly}
use Rattle.demands.proofs.inconsistent_exactly.Statement.{statement}
use Rattle.demands.proofs.inconsistent_exactly.Tie as tie

returns : tie.Need-returns
returns c = inconsistent_exactly

pub inconsistent_exactly_spec : {M : Type 1} → statement M
inconsistent_exactly_spec = tie.close (tie.spec returns)
