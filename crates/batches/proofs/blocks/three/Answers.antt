-- Each turn makes the sums of one lane.
use Rattle.std.proofs.Common.{arith, ℕ, ◌*◌, ap}
use Rattle.roots.specs.Table.{table_root}
use Rattle.batches.specs.Lanes.{spread_lane, three_pairs, turned_value}
use Rattle.batches.proofs.Sums.{three_good}
use Rattle.batches.proofs.LaneLists.{lane_value, low_by, plain_lane, shifted_by, summed_next, summed_start, three_as, turned_asks}
use Rattle.batches.proofs.blocks.three.Goals as goal

pub loop-v-init : goal.loop-v-init
loop-v-init g c = summed_start c.told-y

pub part-r0-requires : goal.part-r0-requires
part-r0-requires g c = (omega arith, omega arith, c.requires.apart.0.inside 0 (omega arith), c.requires.apart.1)

pub part-s0-requires : goal.part-s0-requires
part-s0-requires g c = (omega arith, omega arith, c.requires.apart.0.inside 0 (omega arith), c.requires.apart.1)

pub turned_re-r1-requires-clause-modulus : goal.turned_re-r1-requires-clause-modulus
turned_re-r1-requires-clause-modulus g c = turned_asks c.requires.modulus c.requires.apart.0 c.requires.apart.1 c.loop-v.v 1 c.args.at.k (omega arith) (omega arith) (omega arith) c.factor_at-w1.ensures

pub turned_im-s1-requires-clause-modulus : goal.turned_im-s1-requires-clause-modulus
turned_im-s1-requires-clause-modulus g c = turned_asks c.requires.modulus c.requires.apart.0 c.requires.apart.1 c.loop-v.v 1 c.args.at.k (omega arith) (omega arith) (omega arith) c.factor_at-w1.ensures

pub turned_re-r2-requires-clause-modulus : goal.turned_re-r2-requires-clause-modulus
turned_re-r2-requires-clause-modulus g c = turned_asks c.requires.modulus c.requires.apart.0 c.requires.apart.1 c.loop-v.v 2 (2 * c.args.at.k) (omega arith) (omega arith) (omega arith) c.factor_at-w2.ensures

pub turned_im-s2-requires-clause-modulus : goal.turned_im-s2-requires-clause-modulus
turned_im-s2-requires-clause-modulus g c = turned_asks c.requires.modulus c.requires.apart.0 c.requires.apart.1 c.loop-v.v 2 (2 * c.args.at.k) (omega arith) (omega arith) (omega arith) c.factor_at-w2.ensures

pub loop-v-preserved : goal.loop-v-preserved
unfolding spread_lane
loop-v-preserved g c =
    let m = c.args.m in
    let at = c.args.at in
    let from = c.args.from.now in
    let v = c.loop-v.v in
    let modulus = c.requires.modulus in
    let eight = ap (λ (n : ℕ). 8 * n) c.modulus-o.ensures.0 in
    let values = turned_value m (table_root m c.args.re.now c.args.im.now) at from v in
    summed_next (three_pairs c.of_three-p.result c.of_three-q.result) c.loop-v.invariant (omega arith) (omega arith) (cc)
    (λ X up. three_good modulus.1 values eight
    (three_as c.apart-g.ensures c.of_three-p.ensures) (three_as c.apart-h.ensures c.of_three-q.ensures)
    (shifted_by modulus.2 960 (omega arith) c.factor_at-z.ensures)
    (plain_lane m _ at from v 0 (omega arith) c.part-r0.ensures.0 c.part-s0.ensures.0)
    (lane_value _ modulus.1 modulus.2 c.requires.apart.0 v 1 c.requires.first (omega arith) (omega arith) c.factor_at-w1.ensures
    c.turned_re-r1.ensures.plain c.turned_re-r1.ensures.turned c.turned_im-s1.ensures.plain c.turned_im-s1.ensures.turned)
    (lane_value _ modulus.1 modulus.2 c.requires.apart.0 v 2 c.requires.first (omega arith) (omega arith) c.factor_at-w2.ensures
    c.turned_re-r2.ensures.plain c.turned_re-r2.ensures.turned c.turned_im-s2.ensures.plain c.turned_im-s2.ensures.turned)
    (omega arith) (omega arith) (omega arith) (omega arith)
    (low_by up _ c.part-r0.ensures.0) (low_by up _ c.part-s0.ensures.0))
