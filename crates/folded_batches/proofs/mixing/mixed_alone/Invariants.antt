-- The lanes below v (`MixedAlone`).
use Rattle.folded_batches.specs.Mixing.{MixedAlone}
use Rattle.folded_batches.proofs.mixing.mixed_alone.Given as goal

abbrev pub invariant-loop-v : goal.invariant-loop-v
invariant-loop-v l = MixedAlone l.m l.k l.from l.i l.v l.y
