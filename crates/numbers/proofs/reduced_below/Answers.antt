-- Each number is reduced once.
use Rattle.numbers.specs.Value.{pair_of}
use Rattle.numbers.proofs.Values.{pair_path}
use Rattle.numbers.proofs.reduced_below.Goals as goal

pub returns : goal.returns
unfolding pair_of
returns c = pair_path c.reduce_below.ensures c.reduce_below-2.ensures
