use Rattle.batches.specs.Copying.{PutBlocks}
use Rattle.batches.proofs.copying.put_blocks.Given as goal

abbrev pub invariant-loop-c : goal.invariant-loop-c
invariant-loop-c l = PutBlocks l.y l.base l.gap l.c l.fn.to l.to
