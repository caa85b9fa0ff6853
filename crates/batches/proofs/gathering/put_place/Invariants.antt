use Rattle.std.proofs.Common.{◌+◌}
use Rattle.slices.specs.Filling.{FillingPairs}
use Rattle.batches.specs.Lanes.{lane_at}
use Rattle.batches.proofs.gathering.put_place.Given as goal

abbrev pub invariant-loop-v : goal.invariant-loop-v
invariant-loop-v l = FillingPairs (λ v. l.first + v) (λ v. lane_at l.y 0 v) l.lanes l.v l.fn.volume l.volume
