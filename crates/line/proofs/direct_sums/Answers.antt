-- `direct_sums`: the theorems of proofs/Demands.
use Rattle.line.proofs.Demands.{rules_kept, forward_is_sum, back_is_sum}
use Rattle.line.proofs.direct_sums.Goals as goal

pub returns : goal.returns
returns c = (rules_kept, forward_is_sum, back_is_sum)
