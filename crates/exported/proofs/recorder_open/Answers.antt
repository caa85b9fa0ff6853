-- What the public call answers and leaves, coded.
use Rattle.exported.proofs.Coding.{open_coded_lem}
use Rattle.exported.proofs.recorder_open.Goals as goal

pub returns : goal.returns
returns c = open_coded_lem c.«open».result _ _ _ c.from.ensures c.«open».ensures
