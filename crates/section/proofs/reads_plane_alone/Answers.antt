-- The theorem, as a promise.
use Rattle.section.proofs.PointsRead.{reads_plane_alone}
use Rattle.section.proofs.reads_plane_alone.Goals as goal

pub returns : goal.returns
returns c = reads_plane_alone
