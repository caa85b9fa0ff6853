-- The two arrays pass the test.
use Rattle.std.proofs.Common.{refl}
use Rattle.algebra.specs.ring.Ring.{residue}
use Rattle.numbers.specs.Value.{prime}
use Rattle.roots.specs.Root.{root}
use Rattle.roots.proofs.Tables.{follows, power_table}
use Rattle.roots.proofs.powers.second_powers.Goals as goal

pub returns : goal.returns
unfolding follows prime root residue
returns c = power_table 2 refl tt
