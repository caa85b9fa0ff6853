-- The theorem, as a promise.
use Rattle.mrc.proofs.Viewing.{points_viewed}
use Rattle.mrc.proofs.points_viewed.Goals as goal

pub returns : goal.returns
returns c = points_viewed
