use Rattle.batches.specs.Reduction.{ShiftedList}
use Rattle.batches.proofs.tables.shift_list.Given as goal

abbrev pub invariant-loop-k : goal.invariant-loop-k
invariant-loop-k l = ShiftedList l.m l.from l.k l.to
