-- What the public call answers and leaves, coded.
use Rattle.exported.proofs.Coding.{record_coded_lem}
use Rattle.exported.proofs.recorder_record.Goals as goal

pub returns : goal.returns
returns c = record_coded_lem _ c.«record».result _ c.answered.ensures _ _ c.«record».ensures
