-- The empty sum is zero at every modulus.
use Rattle.numbers.proofs.Accumulators.{accumulated_start}
use Rattle.numbers.proofs.zero_accumulator.Goals as goal

pub returns : goal.returns
returns c = accumulated_start
