-- The theorem, promised.
use Rattle.correlation.proofs.Demands.{sensitive_round}
use Rattle.correlation.proofs.sensitive_round.Goals as goal

pub returns : goal.returns
returns c = sensitive_round
