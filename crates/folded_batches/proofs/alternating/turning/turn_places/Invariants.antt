-- the places below s are turned, the others as they were.
use Rattle.folded_batches.proofs.AlternatingTurning.{Turning}
use Rattle.folded_batches.proofs.alternating.turning.turn_places.Given as goal

abbrev pub invariant-loop-s : goal.invariant-loop-s
invariant-loop-s l = Turning l.m l.direction l.rotated l.a l.tan l.fn.fold l.s l.fold l.y
