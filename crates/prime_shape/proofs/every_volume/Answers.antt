-- The facts of packed volumes, for every prime of the shape.
use Rattle.prime_shape.proofs.Lines.{every_volume}
use Rattle.prime_shape.proofs.every_volume.Goals as goal

pub returns : goal.returns
returns c = every_volume
