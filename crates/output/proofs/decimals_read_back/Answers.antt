-- The theorem, as a promise.
use Rattle.output.proofs.Numerals.{decimals_read_back}
use Rattle.output.proofs.decimals_read_back.Goals as goal

pub returns : goal.returns
returns c = decimals_read_back
