-- The theorem, as a promise.
use Rattle.mrc.proofs.Viewing.{float_limit}
use Rattle.mrc.proofs.float_limit.Goals as goal

pub returns : goal.returns
returns c = float_limit
