-- Block by block.
use Rattle.batches.proofs.Copies.{blocks_next}
use Rattle.batches.proofs.copying.put_blocks.Goals as goal

pub loop-c-preserved : goal.loop-c-preserved
loop-c-preserved c = blocks_next c.loop-c.invariant c.requires.1 c.put_block.ensures
