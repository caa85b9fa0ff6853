-- Each number is reduced once.
use Rattle.numbers.specs.Value.{pair_of}
use Rattle.numbers.proofs.Values.{pair_path}
use Rattle.numbers.proofs.reduced.Goals as goal

pub returns : goal.returns
unfolding pair_of
returns c = pair_path c.reduce.ensures c.reduce-2.ensures
