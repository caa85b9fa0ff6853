-- The lanes below v (`Mixed`).
use Rattle.folded_batches.specs.Mixing.{Mixed}
use Rattle.folded_batches.proofs.mixing.mixed.Given as goal

abbrev pub invariant-loop-v : goal.invariant-loop-v
invariant-loop-v l = Mixed l.m l.k l.from l.i l.j l.v l.y
