-- The generator's state stays below 2^32, and the numbers before x are below p.
use Rattle.std.proofs.Common.{ℕ, ◌<◌, get_or}
use Rattle.test_io.proofs.fill_below.Given as goal

abbrev pub invariant-loop-x : goal.invariant-loop-x
invariant-loop-x l = (l.state < 4294967296) × ((k : ℕ) → k < l.x-index → get_or l.v k 0 < l.p)
