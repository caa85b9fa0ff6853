-- The theorem of proofs/ModelPower, promised.
use Rattle.demands.proofs.ModelPower.{model_power}
use Rattle.demands.proofs.model_power.Statement.{statement}
use Rattle.demands.proofs.model_power.Tie as tie

returns : tie.Need-returns
returns c = model_power

pub model_power_spec : {M : Type 1} → statement M
model_power_spec = tie.close (tie.spec returns)
