-- 2^32, or twice that.
use Rattle.numbers.specs.Bounds.{res}
use Rattle.numbers.proofs.Residues.{below_by}
use Rattle.numbers.proofs.RealValues.{sum_small}
use Rattle.batches.proofs.LastReduction.{shift_holds}
use Rattle.folded_batches.proofs.HeldNumbers.{held_sum}
use Rattle.folded_batches.proofs.Mates.{other_direction, end_once, end_twice}
use Rattle.folded_batches.proofs.hermitian.mates.end_mix.Goals as goal

pub sum_mix-requires : goal.sum_mix-requires
sum_mix-requires c = (c.requires.0, below_by c.args.m (res c.args.m 4294967296) c.shift-one.ensures)

pub add-requires : goal.add-requires
add-requires c =
    let l = below_by c.args.m (res c.args.m 4294967296) c.shift-one.ensures in
    (c.requires.0, l, l)

pub sum_mix-requires-else-direction-eq0 : goal.sum_mix-requires-else-direction-eq0
sum_mix-requires-else-direction-eq0 c = (c.requires.0, sum_small c.args.m c.shift-one.result c.shift-one.result c.add.ensures)

pub returns-then-direction-eq0 : goal.returns-then-direction-eq0
returns-then-direction-eq0 c = end_once c.args.m c.if-direction-eq0.true (shift_holds c.args.m c.shift-one.ensures) c.sum_mix.ensures

pub returns-else-direction-eq0 : goal.returns-else-direction-eq0
returns-else-direction-eq0 c =
    let m = c.args.m in
    let h = shift_holds m c.shift-one.ensures in
    end_twice m (other_direction c.args.direction c.requires.1 c.if-direction-eq0.false) (held_sum m c.shift-one.result c.shift-one.result c.add.ensures h h) c.sum_mix-else-direction-eq0.ensures
