-- `demands::later_value_counts`: the theorem of proofs/LaterValues.
use Rattle.demands.proofs.LaterValues.{later_value_counts}
use Rattle.demands.proofs.later_value_counts.Statement.{statement}
use Rattle.demands.proofs.later_value_counts.Tie as tie

returns : tie.Need-returns
returns c = later_value_counts

pub later_value_counts_spec : {M : Type 1} → statement M
later_value_counts_spec = tie.close (tie.spec returns)
