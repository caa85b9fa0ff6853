-- The numbers below u (`Numbers`).
use Rattle.std.proofs.Common.{◌+◌, ◌*◌, ◌-◌, get_or}
use Rattle.numbers.specs.Value.{prime}
use Rattle.folded_batches.specs.MirrorLanes.{Numbers}
use Rattle.folded_batches.proofs.mirror.places.subtract_places.Given as goal

abbrev pub invariant-loop-u : goal.invariant-loop-u
invariant-loop-u l = Numbers (λ u. 2 * prime l.m - (get_or l.from (32 * l.i + u) 0 + get_or l.from (32 * l.j + u) 0)) l.u l.y
