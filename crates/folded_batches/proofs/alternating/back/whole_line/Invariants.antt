-- j places of the line are there.
use Rattle.std.proofs.Common.{◌≡◌, ◌*◌, length}
use Rattle.numbers.specs.Value.{prime}
use Rattle.folded_batches.specs.AlternatingLanes.{Filled, whole_pair}
use Rattle.folded_batches.proofs.alternating.back.whole_line.Given as goal

abbrev pub invariant-loop-j : goal.invariant-loop-j
invariant-loop-j l = Filled (λ j v x. x ≡ whole_pair (512 * prime l.m) l.a l.twice l.fold j v) l.j l.line × (length l.line ≡ length l.fn.line) × (length l.y ≡ 32)
