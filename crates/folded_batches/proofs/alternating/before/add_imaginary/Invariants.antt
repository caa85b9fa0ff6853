-- v of the numbers are added to, the others as they were.
use Rattle.std.proofs.Common.{◌≡◌, ℕ, ◌+◌, ◌<◌, ◌≤◌, get_or, length}
use Rattle.batches.specs.Lanes.{lane_at}
use Rattle.folded_batches.proofs.alternating.before.add_imaginary.Given as goal

abbrev pub invariant-loop-v : goal.invariant-loop-v
invariant-loop-v l = record {
  long : length l.y ≡ 32;
  added : (k : ℕ) → k < l.v → get_or l.y k 0 ≡ get_or l.fn.y k 0 + (lane_at l.from l.j k).im;
  kept : (k : ℕ) → l.v ≤ k → get_or l.y k 0 ≡ get_or l.fn.y k 0;
}
