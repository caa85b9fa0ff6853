-- What the public call answers and leaves, coded.
use Rattle.exported.proofs.Coding.{combine_coded_lem}
use Rattle.exported.proofs.recorder_combine.Goals as goal

pub returns : goal.returns
returns c = combine_coded_lem c.combine_maps.result _ _ _ c.from.ensures c.combine_maps.ensures
