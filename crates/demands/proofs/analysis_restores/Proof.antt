use Rattle.demands.proofs.Restoring.{analysis_restores}
use Rattle.demands.proofs.analysis_restores.Statement.{statement}
use Rattle.demands.proofs.analysis_restores.Tie as tie

returns : tie.Need-returns
returns c = analysis_restores

pub analysis_restores_spec : {M : Type 1} → statement M
analysis_restores_spec = tie.close (tie.spec returns)
