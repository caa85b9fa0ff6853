-- The places below s (`Places`).
use Rattle.std.proofs.Common.{◌≡◌, ℕ, ◌<◌, length}
use Rattle.numbers.specs.Value.{Value, value_of}
use Rattle.batches.specs.Lanes.{lane_at}
use Rattle.folded_batches.specs.MirrorLanes.{Places, twice_finished}
use Rattle.folded_batches.proofs.mirror.after.finish.Given as goal

abbrev pub invariant-loop-s : goal.invariant-loop-s
invariant-loop-s l = record {
  long : length l.line ≡ length l.fn.line;
  block : length l.y ≡ 32;
  places : (o : ℕ → Value l.m) → (l.first ≡ 0 → (v : ℕ) → v < 16 → value_of l.m (lane_at l.odds 0 v) ≡ o v)
      → Places l.m 2147483647 (twice_finished l.m l.a l.first l.tan l.fold o) l.first l.s l.line;
}
