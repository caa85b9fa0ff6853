use Rattle.std.proofs.Common.{arith}
use Rattle.folded_batches.proofs.alternating.before.first_block.Goals as goal

pub returns : goal.returns
returns c = record { long = c.fill_lanes.ensures.long; each = λ v lv. let h = c.fill_lanes.ensures.each v lv in grind arith }
