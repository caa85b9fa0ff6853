-- What is copied are the numbers of the block.
use Rattle.std.proofs.Common.{arith}
use Rattle.folded_batches.proofs.MixedLanes.{block_part}
use Rattle.folded_batches.proofs.mixing.put_place.Goals as goal

pub returns : goal.returns
returns c = block_part c.args.j c.args.to.now c.copy_from_slice.ensures.after c.requires (omega arith)
