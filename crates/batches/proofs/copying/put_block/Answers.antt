-- The part of y is the part of `to`.
use Rattle.std.proofs.Common.{arith}
use Rattle.batches.proofs.Copies.{copied}
use Rattle.batches.proofs.copying.put_block.Goals as goal

pub returns : goal.returns
returns c = copied c.args.c c.args.j (omega arith) (omega arith) c.copy_from_slice.ensures.after
