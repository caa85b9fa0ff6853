-- The theorem, as a promise.
use Rattle.mrc.proofs.EdgesAngles.{parameter_ends}
use Rattle.mrc.proofs.parameter_ends.Goals as goal

pub returns : goal.returns
returns c = parameter_ends
