-- The theorem, as a promise.
use Rattle.mrc.proofs.WholeFloats.{floats_exact}
use Rattle.mrc.proofs.floats_exact.Goals as goal

pub returns : goal.returns
returns c = floats_exact
