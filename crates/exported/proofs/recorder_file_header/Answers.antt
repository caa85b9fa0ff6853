-- What the public call answers, coded.
use Rattle.exported.proofs.Coding.{header_coded_lem}
use Rattle.exported.proofs.recorder_file_header.Goals as goal

pub returns : goal.returns
returns c = header_coded_lem c.file_header.result _ _ c.from.ensures c.file_header.ensures
