-- The theorem, promised.
use Rattle.correlation.proofs.Demands.{within_range}
use Rattle.correlation.proofs.within_range.Goals as goal

pub returns : goal.returns
returns c = within_range
