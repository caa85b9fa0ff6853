-- Below the least place so far no orbit whose place is below this range came before.
use Rattle.faults.specs.FaultSteps.{Apart, Stops}
use Rattle.faults.proofs.first_repeated.Given as goal

abbrev pub invariant-loop-low : goal.invariant-loop-low
invariant-loop-low l = Apart l.cell l.file 0 l.low l.least × Stops l.cell l.file l.limit l.least
