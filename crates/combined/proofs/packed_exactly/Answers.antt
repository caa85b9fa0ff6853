-- The theorem, as a promise.
use Rattle.combined.proofs.PackedMaps.{packed_exactly}
use Rattle.combined.proofs.packed_exactly.Goals as goal

pub returns : goal.returns
returns c = packed_exactly
