-- The theorem, as a promise.
use Rattle.combined.proofs.Remainders.{combined_only}
use Rattle.combined.proofs.chinese.combined_only.Goals as goal

pub returns : goal.returns
returns c = combined_only
