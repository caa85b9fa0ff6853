-- The theorem, as a promise.
use Rattle.mrc.proofs.Header.{undetermined}
use Rattle.mrc.proofs.undetermined.Goals as goal

pub returns : goal.returns
returns c = undetermined
