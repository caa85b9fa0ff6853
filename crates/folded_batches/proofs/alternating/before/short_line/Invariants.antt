-- t places of the short line are there.
use Rattle.std.proofs.Common.{◌≡◌, length}
use Rattle.numbers.specs.Value.{prime}
use Rattle.folded_batches.specs.AlternatingLanes.{Filled, short_pair}
use Rattle.folded_batches.proofs.alternating.before.short_line.Given as goal

abbrev pub invariant-loop-t : goal.invariant-loop-t
invariant-loop-t l = Filled (λ t v x. x ≡ short_pair (prime l.m) l.a l.line t v) l.t l.fold × (length l.fold ≡ length l.fn.fold) × (length l.y ≡ 32)
