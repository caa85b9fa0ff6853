-- The theorem of proofs/PointsRead, promised.
use Rattle.mrc.proofs.PointsRead.{reads_points_alone}
use Rattle.mrc.proofs.reads_points_alone.Goals as goal

pub returns : goal.returns
returns c = reads_points_alone
