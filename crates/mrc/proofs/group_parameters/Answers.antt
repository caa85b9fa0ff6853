-- The theorem, as a promise.
use Rattle.mrc.proofs.EdgesAngles.{group_parameters}
use Rattle.mrc.proofs.group_parameters.Goals as goal

pub returns : goal.returns
returns c = group_parameters
