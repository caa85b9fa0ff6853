use Rattle.batches.specs.Groups.{ReducedPlace}
use Rattle.batches.proofs.gathering.reduce_place.Given as goal

abbrev pub invariant-loop-u : goal.invariant-loop-u
invariant-loop-u l = ReducedPlace l.m l.c l.s l.j l.u l.y
