-- What the public call answers and leaves, coded.
use Rattle.exported.proofs.Coding.{correlation_coded_lem}
use Rattle.exported.proofs.recorder_correlate.Goals as goal

pub returns : goal.returns
returns c = correlation_coded_lem c.correlate.result _ _ _ c.from.ensures c.correlate.ensures
