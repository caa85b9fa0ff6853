-- Each turn makes the sums of one lane.
use Rattle.std.proofs.Common.{arith, ℕ, ◌*◌, ap}
use Rattle.roots.specs.Table.{table_root}
use Rattle.batches.specs.Lanes.{spread_lane, two_pairs, turned_value}
use Rattle.batches.proofs.Sums.{two_good}
use Rattle.batches.proofs.LaneLists.{lane_value, low_by, plain_lane, summed_next, summed_start, turned_asks}
use Rattle.batches.proofs.blocks.two.Goals as goal

pub loop-v-init : goal.loop-v-init
loop-v-init g c = summed_start c.told-y

pub part-r0-requires : goal.part-r0-requires
part-r0-requires g c = (omega arith, omega arith, c.requires.apart.0.inside 0 (omega arith), c.requires.apart.1)

pub part-s0-requires : goal.part-s0-requires
part-s0-requires g c = (omega arith, omega arith, c.requires.apart.0.inside 0 (omega arith), c.requires.apart.1)

pub turned_re-r1-requires-clause-modulus : goal.turned_re-r1-requires-clause-modulus
turned_re-r1-requires-clause-modulus g c = turned_asks c.requires.modulus c.requires.apart.0 c.requires.apart.1 c.loop-v.v 1 c.args.at.k (omega arith) (omega arith) (omega arith) c.factor_at-w1.ensures

pub turned_im-s1-requires-clause-modulus : goal.turned_im-s1-requires-clause-modulus
turned_im-s1-requires-clause-modulus g c = turned_asks c.requires.modulus c.requires.apart.0 c.requires.apart.1 c.loop-v.v 1 c.args.at.k (omega arith) (omega arith) (omega arith) c.factor_at-w1.ensures

pub loop-v-preserved : goal.loop-v-preserved
unfolding spread_lane
loop-v-preserved g c =
    let m = c.args.m in
    let at = c.args.at in
    let from = c.args.from.now in
    let v = c.loop-v.v in
    let modulus = c.requires.modulus in
    let eight = ap (λ (n : ℕ). 8 * n) c.modulus-o.ensures.0 in
    let values = turned_value m (table_root m c.args.re.now c.args.im.now) at from v in
    summed_next (two_pairs (8 * c.modulus-o.result) c.part-r0.result c.part-s0.result c.turned_re-r1.result c.turned_im-s1.result) c.loop-v.invariant (omega arith) (omega arith) (cc)
    (λ X up. two_good modulus.1 values eight _ _ _ _
    (plain_lane m _ at from v 0 (omega arith) c.part-r0.ensures.0 c.part-s0.ensures.0)
    (lane_value _ modulus.1 modulus.2 c.requires.apart.0 v 1 c.requires.first (omega arith) (omega arith) c.factor_at-w1.ensures
    c.turned_re-r1.ensures.plain c.turned_re-r1.ensures.turned c.turned_im-s1.ensures.plain c.turned_im-s1.ensures.turned)
    (omega arith) (omega arith)
    (low_by up _ c.part-r0.ensures.0) (low_by up _ c.part-s0.ensures.0))
