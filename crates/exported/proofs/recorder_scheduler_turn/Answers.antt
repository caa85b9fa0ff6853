-- What the public call answers and leaves, coded.
use Rattle.exported.proofs.Coding.{turn_coded_lem}
use Rattle.exported.proofs.recorder_scheduler_turn.Goals as goal

pub returns : goal.returns
returns c = turn_coded_lem _ c.turn.result _ _ _ _ c.answered.ensures c.turn.ensures
