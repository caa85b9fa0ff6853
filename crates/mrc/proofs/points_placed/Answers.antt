-- The theorem, as a promise.
use Rattle.mrc.proofs.Bytes.{points_placed}
use Rattle.mrc.proofs.points_placed.Goals as goal

pub returns : goal.returns
returns c = points_placed
