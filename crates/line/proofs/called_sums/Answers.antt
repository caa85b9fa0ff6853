-- `called_sums`: the theorems of proofs/CalledSums.
use Rattle.line.proofs.CalledSums.{call_is_sum, list_free}
use Rattle.line.proofs.called_sums.Goals as goal

pub returns : goal.returns
returns c = (call_is_sum, list_free)
