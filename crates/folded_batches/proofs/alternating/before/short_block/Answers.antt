use Rattle.std.proofs.Common.{arith}
use Rattle.folded_batches.proofs.AlternatingBlocks.{block_by, short_low, short_high}
use Rattle.folded_batches.proofs.alternating.before.short_block.Goals as goal

pub returns-then-t-a : goal.returns-then-t-a
returns-then-t-a c = block_by (λ v. short_low _ _ _ _ v c.if-t-a.true) c.fill_lanes.ensures.long (λ v lv. let h = c.fill_lanes.ensures.each v lv in grind arith)

pub returns-else-t-a : goal.returns-else-t-a
returns-else-t-a c = block_by (λ v. short_high _ _ _ _ v c.if-t-a.false) c.fill_lanes-else-t-a.ensures.long (λ v lv. let h = c.fill_lanes-else-t-a.ensures.each v lv in grind arith)
