-- A multiple of the prime makes x whole.
use Rattle.std.proofs.Common.{refl}
use Rattle.batches.proofs.Division.{divided_as}
use Rattle.batches.proofs.reduction.divided.Goals as goal

pub returns : goal.returns
returns c = divided_as c.modulus.ensures.0 c.inverse.ensures.0 c.requires.1 refl
