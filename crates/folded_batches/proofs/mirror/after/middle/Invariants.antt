-- The numbers below u (`Numbers`).
use Rattle.std.proofs.Common.{◌+◌, ◌*◌, ◌-◌, get_or}
use Rattle.numbers.specs.Value.{prime}
use Rattle.folded_batches.specs.MirrorLanes.{Numbers}
use Rattle.folded_batches.proofs.mirror.after.middle.Given as goal

abbrev pub invariant-loop-u : goal.invariant-loop-u
invariant-loop-u l = Numbers (λ u. 2 * (get_or l.fold u 0 + (2880 * prime l.m - 2 * get_or l.odds u 0))) l.u l.y
