-- What the public call answers and leaves, coded.
use Rattle.exported.proofs.Coding.{enter_coded_lem}
use Rattle.exported.proofs.recorder_scheduler_enter.Goals as goal

pub returns : goal.returns
returns c = enter_coded_lem _ c.enter.result _ c.answered.ensures _ _ _ c.enter.ensures
