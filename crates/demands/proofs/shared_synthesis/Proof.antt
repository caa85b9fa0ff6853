use Rattle.demands.proofs.SharedItems.{shared_synthesis}
use Rattle.demands.proofs.shared_synthesis.Statement.{statement}
use Rattle.demands.proofs.shared_synthesis.Tie as tie

returns : tie.Need-returns
returns c = shared_synthesis

pub shared_synthesis_spec : {M : Type 1} → statement M
shared_synthesis_spec = tie.close (tie.spec returns)
