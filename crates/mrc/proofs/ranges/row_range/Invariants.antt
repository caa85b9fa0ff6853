-- The range of the numbers before y.
use Rattle.std.proofs.Common.{◌+◌, get_or, pos}
use Rattle.mrc.specs.Ranges.{among, Spans}
use Rattle.mrc.proofs.ranges.row_range.Given as goal

abbrev pub invariant-loop-y : goal.invariant-loop-y
invariant-loop-y l = Spans l.range (λ pick. among pick l.y (λ y. get_or l.map (l.start + y) (pos 0)))
