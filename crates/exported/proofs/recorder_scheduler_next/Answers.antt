-- What the public call answers, coded.
use Rattle.exported.proofs.Coding.{next_coded_lem}
use Rattle.exported.proofs.recorder_scheduler_next.Goals as goal

pub returns : goal.returns
returns c = next_coded_lem c.next.result _ _ c.from.ensures c.next.ensures
