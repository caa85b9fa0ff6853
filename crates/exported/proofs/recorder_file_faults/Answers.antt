-- What the public call answers, coded.
use Rattle.exported.proofs.Coding.{faults_coded_lem}
use Rattle.exported.proofs.recorder_file_faults.Goals as goal

pub returns : goal.returns
returns c = faults_coded_lem c.file_faults.result _ _ c.from.ensures c.file_faults.ensures
