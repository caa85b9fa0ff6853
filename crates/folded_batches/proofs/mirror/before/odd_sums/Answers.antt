-- Place by place (`Summing`).
use Rattle.std.proofs.Common.{arith}
use Rattle.folded_batches.proofs.MirrorShort.{summing_start, summing_next, summing_low, no_sums}
use Rattle.folded_batches.proofs.MirrorBlocks.{low_numbers}
use Rattle.folded_batches.proofs.mirror.before.odd_sums.Goals as goal

pub loop-t-init : goal.loop-t-init
loop-t-init c = summing_start

pub add_to-requires : goal.add_to-requires
add_to-requires c =
    let p = c.requires in
    (omega arith, low_numbers p.0 p.4, c.loop-t.invariant.long, summing_low p.0 c.loop-t.invariant (omega arith))

pub loop-t-preserved : goal.loop-t-preserved
loop-t-preserved c =
    summing_next c.loop-t.invariant c.requires.4 c.if-first-eq0.true c.odd_place.ensures.0 c.odd_place.ensures.1 c.add_to.ensures

pub returns-else-first-eq0 : goal.returns-else-first-eq0
returns-else-first-eq0 c = no_sums c.if-first-eq0.false
