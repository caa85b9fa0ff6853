-- The records before this place are taken, their orbits are marked, and the others decide.
use Prim.Native.Nat.{◌-◌}
use lib.ListN.{length}
use Rattle.factor_file.proofs.Judging.{Judging}
use Rattle.factor_file.proofs.records.judge_records.Given as goal

abbrev pub invariant-loop-c : goal.invariant-loop-c
invariant-loop-c l = Judging l.modulus l.cell l.file l.marks l.at l.place

abbrev pub decreases-loop-c : goal.decreases-loop-c
decreases-loop-c l = length l.file - l.at
