use Rattle.demands.proofs.AcceptedRecords.{factors_implied}
use Rattle.demands.proofs.factors_implied.Statement.{statement}
use Rattle.demands.proofs.factors_implied.Tie as tie

returns : tie.Need-returns
returns c = factors_implied

pub factors_implied_spec : {M : Type 1} → statement M
factors_implied_spec = tie.close (tie.spec returns)
