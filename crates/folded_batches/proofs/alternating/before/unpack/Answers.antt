use Rattle.std.proofs.Common.{arith}
use Rattle.folded_batches.proofs.AlternatingBefore.{unpacked_by}
use Rattle.folded_batches.proofs.alternating.before.unpack.Goals as goal

pub returns : goal.returns
returns c = unpacked_by c.requires.0 (record { long = c.fill_lanes.ensures.long; each = λ v lv m low. let h = c.fill_lanes.ensures.each v lv in grind arith }) c.put_place.ensures c.first_block.ensures c.put_place-2.ensures
