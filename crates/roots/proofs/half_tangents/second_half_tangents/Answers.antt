-- The array passes the test.
use Rattle.std.proofs.Common.{refl}
use Rattle.algebra.specs.ring.Ring.{residue}
use Rattle.algebra.proofs.fourier.PowerTable.{passes}
use Rattle.numbers.specs.Value.{prime}
use Rattle.roots.specs.Root.{root}
use Rattle.roots.proofs.Tables.{tangent_table}
use Rattle.roots.proofs.half_tangents.second_half_tangents.Goals as goal

pub returns : goal.returns
unfolding passes prime root residue
returns c = tangent_table 2 refl tt
