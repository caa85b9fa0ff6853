-- The records before this place are sound.
use Rattle.faults.specs.FaultSteps.{SoundTo}
use Rattle.faults.proofs.first_unsound.Given as goal

abbrev pub invariant-loop-i : goal.invariant-loop-i
invariant-loop-i l = SoundTo l.modulus l.cell l.file l.i
