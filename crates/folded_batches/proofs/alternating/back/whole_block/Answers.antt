use Rattle.std.proofs.Common.{arith}
use Rattle.folded_batches.proofs.AlternatingBlocks.{block_by}
use Rattle.folded_batches.proofs.AlternatingBack.{whole_even, whole_odd}
use Rattle.folded_batches.proofs.alternating.back.whole_block.Goals as goal

pub returns-then-j-eq0 : goal.returns-then-j-eq0
returns-then-j-eq0 c = block_by (λ v. whole_even _ _ _ _ _ v c.mate_of-k.ensures.0 c.if-j-eq0.true) c.fill_lanes.ensures.long (λ v lv. let h = c.fill_lanes.ensures.each v lv in grind arith)

pub returns-else-j-eq0 : goal.returns-else-j-eq0
returns-else-j-eq0 c = block_by (λ v. whole_odd _ _ _ _ _ v c.mate_of-k.ensures.0 c.if-j-eq0.false) c.fill_lanes-else-j-eq0.ensures.long (λ v lv. let h = c.fill_lanes-else-j-eq0.ensures.each v lv in grind arith)
