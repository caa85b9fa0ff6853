-- What the public call answers and leaves, coded.
use Rattle.exported.proofs.Coding.{factor_coded_lem}
use Rattle.exported.proofs.recorder_factor.Goals as goal

pub returns : goal.returns
returns c = factor_coded_lem c.factor.result _ _ c.from.ensures c.factor.ensures
