use Rattle.faults.proofs.FewestFaults.{fewest_exactly}
use Rattle.faults.proofs.fewest_exactly.Statement.{statement}
use Rattle.faults.proofs.fewest_exactly.Tie as tie

returns : tie.Need-returns
returns c = fewest_exactly

pub fewest_exactly_spec : {M : Type 1} → statement M
fewest_exactly_spec = tie.close (tie.spec returns)
