-- The theorems, promised.
use Rattle.correlation.proofs.Demands.{self_at_zero, greatest_at_zero}
use Rattle.correlation.proofs.with_itself.Goals as goal

pub returns : goal.returns
returns c = (self_at_zero, greatest_at_zero)
