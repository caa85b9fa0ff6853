-- What the public call answers and leaves, coded.
use Rattle.exported.proofs.Coding.{lane_coded_lem}
use Rattle.exported.proofs.recorder_scheduler_withdraw.Goals as goal

pub returns : goal.returns
returns c = lane_coded_lem _ c.withdraw.result _ c.answered.ensures _ _ _ c.withdraw.ensures
