-- What the public call answers and leaves, coded.
use Rattle.exported.proofs.Coding.{window_coded_lem}
use Rattle.exported.proofs.recorder_drift.Goals as goal

pub returns : goal.returns
returns c = window_coded_lem c.window_extremes.result _ _ _ c.from.ensures c.window_extremes.ensures
