-- `three_parts`: the theorem of proofs/Equation3.
use Rattle.butterflies.proofs.Equation3.{equation_three_holds}
use Rattle.butterflies.proofs.three_parts.Goals as goal

pub returns : goal.returns
returns c = equation_three_holds
