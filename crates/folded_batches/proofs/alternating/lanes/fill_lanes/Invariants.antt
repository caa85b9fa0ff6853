-- v lanes are there.
use Rattle.std.proofs.Common.{◌≡◌, ℕ, ◌<◌, length}
use Rattle.batches.specs.Lanes.{lane_at}
use Rattle.folded_batches.proofs.alternating.lanes.fill_lanes.Given as goal

abbrev pub invariant-loop-v : goal.invariant-loop-v
invariant-loop-v g l = record { long : length l.y ≡ 32; each : (v : ℕ) → v < l.v → goal.F-post g l.f v (lane_at l.y 0 v) }
