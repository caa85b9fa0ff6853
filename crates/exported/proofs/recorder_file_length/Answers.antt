-- What the public call answers, coded.
use Rattle.exported.proofs.Coding.{length_coded_lem}
use Rattle.exported.proofs.recorder_file_length.Goals as goal

pub returns : goal.returns
returns c = length_coded_lem c.file_length.result _ _ c.from.ensures c.file_length.ensures
