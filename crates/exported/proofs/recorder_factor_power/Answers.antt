-- What the public call answers and leaves, coded.
use Rattle.exported.proofs.Coding.{power_coded_lem}
use Rattle.exported.proofs.recorder_factor_power.Goals as goal

pub returns : goal.returns
returns c = power_coded_lem c.factor_power.result _ _ c.from.ensures c.factor_power.ensures
