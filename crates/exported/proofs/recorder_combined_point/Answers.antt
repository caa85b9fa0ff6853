-- What the public call answers, coded.
use Rattle.exported.proofs.Coding.{count_coded_lem}
use Rattle.exported.proofs.recorder_combined_point.Goals as goal

pub returns : goal.returns
returns c = count_coded_lem c.count.result _ _ c.from.ensures c.count.ensures
