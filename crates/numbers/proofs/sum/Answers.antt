-- Sums go by parts.
use Rattle.algebra.specs.ring.Ring.{gauss}
use Rattle.numbers.specs.Value.{value_of, pair_of}
use Rattle.numbers.proofs.Values.{pair_path}
use Rattle.numbers.proofs.sum.Goals as goal

pub returns : goal.returns
unfolding gauss value_of pair_of
returns c = pair_path c.add.ensures c.add-2.ensures
