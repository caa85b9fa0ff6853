-- `buffers::all_below`: `below` tells of the numbers that were looked at, and the rest of the list of the others.
use Rattle.std.proofs.Common.{◌≡◌, ◌&&◌, drop}
use Rattle.slices.specs.Pairs.{all_below}
use Rattle.slices.proofs.buffers.all_below.Given as goal

abbrev pub invariant-loop-x : goal.invariant-loop-x
invariant-loop-x l = all_below l.p l.s ≡ (l.below && all_below l.p (drop l.x-index l.s))
