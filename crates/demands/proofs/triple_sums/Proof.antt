use Rattle.demands.proofs.Starts.{triple_sums}
use Rattle.demands.proofs.triple_sums.Statement.{statement}
use Rattle.demands.proofs.triple_sums.Tie as tie

returns : tie.Need-returns
returns c = triple_sums

pub triple_sums_spec : {M : Type 1} → statement M
triple_sums_spec = tie.close (tie.spec returns)
