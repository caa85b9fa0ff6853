-- What the public call answers and leaves, coded.
use Rattle.exported.proofs.Coding.{file_coded_lem}
use Rattle.exported.proofs.recorder_open_file.Goals as goal

pub returns : goal.returns
returns c = file_coded_lem c.open_file.result _ _ _ c.from.ensures c.open_file.ensures
