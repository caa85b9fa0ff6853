-- The theorem, promised.
use Rattle.correlation.proofs.Demands.{sensitive}
use Rattle.correlation.proofs.sensitive.Goals as goal

pub returns : goal.returns
returns c = sensitive
