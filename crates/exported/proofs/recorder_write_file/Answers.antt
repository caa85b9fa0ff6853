-- What the public call answers and leaves, coded.
use Rattle.exported.proofs.Coding.{write_coded_lem}
use Rattle.exported.proofs.recorder_write_file.Goals as goal

pub returns : goal.returns
returns c = write_coded_lem c.write_file.result _ _ _ c.from.ensures c.write_file.ensures
