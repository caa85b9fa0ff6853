-- `gathering::gather`: j pairs have been gathered.
use Rattle.std.proofs.Common.{◌+◌, ◌*◌}
use Rattle.slices.specs.Pairs.{at}
use Rattle.slices.specs.Filling.{FillingPairs}
use Rattle.slices.proofs.gathering.gather.Given as goal

abbrev pub invariant-loop-j : goal.invariant-loop-j
invariant-loop-j l = FillingPairs (λ k. k) (λ k. at l.s (l.start + k * l.stride)) l.n l.j l.fn.d l.d
