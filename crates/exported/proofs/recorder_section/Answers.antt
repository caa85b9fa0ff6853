-- What the public call answers and leaves, coded.
use Rattle.exported.proofs.Coding.{write_coded_lem}
use Rattle.exported.proofs.recorder_section.Goals as goal

pub returns : goal.returns
returns c = write_coded_lem c.section_text.result _ _ _ c.from.ensures c.section_text.ensures
