-- `gathering::scatter`: j pairs have been scattered.
use Rattle.std.proofs.Common.{◌+◌, ◌*◌}
use Rattle.slices.specs.Pairs.{at}
use Rattle.slices.specs.Filling.{FillingPairs}
use Rattle.slices.proofs.gathering.scatter.Given as goal

abbrev pub invariant-loop-j : goal.invariant-loop-j
invariant-loop-j l = FillingPairs (λ k. l.start + k * l.stride) (at l.s) l.n l.j l.fn.d l.d
