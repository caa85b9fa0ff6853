-- The range of the rows before x.
use Rattle.mrc.specs.Ranges.{among, Spans, of_row}
use Rattle.mrc.proofs.ranges.plane_range.Given as goal

abbrev pub invariant-loop-x : goal.invariant-loop-x
invariant-loop-x l = Spans l.range (λ pick. among pick l.x (λ x. of_row l.cell l.map l.z x pick))
