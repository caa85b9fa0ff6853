use Rattle.std.proofs.Common.{◌≡◌, length}
use Rattle.batches.specs.Groups.{Scattered}
use Rattle.batches.proofs.gathering.scatter.Given as goal

abbrev pub invariant-loop-j : goal.invariant-loop-j
invariant-loop-j l = Scattered l.m l.c l.s l.start l.stride l.lanes l.j l.fn.volume l.volume × (length l.y ≡ 32)
