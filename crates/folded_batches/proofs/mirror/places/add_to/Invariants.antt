-- The numbers below u (`Raised`).
use Rattle.std.proofs.Common.{◌+◌, ◌*◌, get_or}
use Rattle.folded_batches.specs.MirrorLanes.{Raised}
use Rattle.folded_batches.proofs.mirror.places.add_to.Given as goal

abbrev pub invariant-loop-u : goal.invariant-loop-u
invariant-loop-u l = Raised (λ u. get_or l.from (32 * l.j + u) 0) l.u l.initial.y l.y
