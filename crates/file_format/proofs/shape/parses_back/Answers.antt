use Rattle.file_format.proofs.WrittenFiles.{parses_back}
use Rattle.file_format.proofs.shape.parses_back.Goals as goal

pub returns : goal.returns
returns c = parses_back
