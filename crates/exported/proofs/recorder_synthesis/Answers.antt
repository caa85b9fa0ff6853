-- What the public call answers and leaves, coded.
use Rattle.exported.proofs.Coding.{work_coded_lem}
use Rattle.exported.proofs.recorder_synthesis.Goals as goal

pub returns : goal.returns
returns c = work_coded_lem _ c.synthesis.result _ c.answered.ensures _ _ _ c.synthesis.ensures
