-- What the public call answers and leaves, coded.
use Rattle.exported.proofs.Coding.{point_coded_lem}
use Rattle.exported.proofs.recorder_point.Goals as goal

pub returns : goal.returns
returns c = point_coded_lem c.point.result _ _ c.from.ensures c.point.ensures
