-- `restored`: the theorems of proofs/Demands and proofs/TakenBack.
use Rattle.line.proofs.Demands.{restored, restored_after}
use Rattle.line.proofs.TakenBack.{taken_back}
use Rattle.line.proofs.restored.Goals as goal

pub returns : goal.returns
returns c = (restored, restored_after, taken_back)
