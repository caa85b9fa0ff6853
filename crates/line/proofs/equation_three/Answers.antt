-- `equation_three`: the theorem of proofs/EverySplit.
use Rattle.line.proofs.EverySplit.{every_split}
use Rattle.line.proofs.equation_three.Goals as goal

pub returns : goal.returns
returns c = every_split
