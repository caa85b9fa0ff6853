-- The range of the planes before z.
use Rattle.mrc.specs.Ranges.{among, Spans, of_plane}
use Rattle.mrc.proofs.ranges.map_range.Given as goal

abbrev pub invariant-loop-z : goal.invariant-loop-z
invariant-loop-z l = Spans l.range (λ pick. among pick l.z (λ z. of_plane l.cell l.map z pick))
