-- What the public call answers and leaves, coded.
use Rattle.exported.proofs.Coding.{line_coded_lem}
use Rattle.exported.proofs.recorder_line.Goals as goal

pub returns : goal.returns
returns c = line_coded_lem c.line.result _ _ _ _ c.line_number.ensures c.line.ensures
