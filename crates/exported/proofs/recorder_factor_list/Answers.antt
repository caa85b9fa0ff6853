-- What the public call answers and leaves, coded.
use Rattle.exported.proofs.Coding.{write_coded_lem}
use Rattle.exported.proofs.recorder_factor_list.Goals as goal

pub returns : goal.returns
returns c = write_coded_lem c.factor_list.result _ _ _ c.from.ensures c.factor_list.ensures
