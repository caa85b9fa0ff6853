use Rattle.std.proofs.Common.{◌≡◌, length}
use Rattle.batches.specs.Groups.{Gathered}
use Rattle.batches.proofs.gathering.gather.Given as goal

abbrev pub invariant-loop-j : goal.invariant-loop-j
invariant-loop-j l = Gathered l.volume l.start l.stride l.lanes l.j l.d × (length l.d ≡ length l.fn.d)
