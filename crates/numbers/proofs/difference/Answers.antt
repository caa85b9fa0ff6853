-- Differences go by parts.
use Rattle.algebra.specs.ring.Ring.{gauss}
use Rattle.numbers.specs.Value.{value_of, pair_of}
use Rattle.numbers.proofs.Values.{pair_path}
use Rattle.numbers.proofs.difference.Goals as goal

pub returns : goal.returns
unfolding gauss value_of pair_of
returns c = pair_path c.sub.ensures c.sub-2.ensures
