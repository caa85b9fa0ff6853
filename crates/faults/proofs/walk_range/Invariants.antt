-- The marks are those of the records before this place.
use Rattle.faults.proofs.FaultWalks.{Marking}
use Rattle.faults.proofs.walk_range.Given as goal

abbrev pub invariant-loop-i : goal.invariant-loop-i
invariant-loop-i l = Marking l.cell l.file l.low l.marks l.i
