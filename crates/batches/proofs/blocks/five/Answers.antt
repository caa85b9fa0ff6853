-- Each turn makes the sums of one lane.
use Rattle.std.proofs.Common.{arith, ℕ, ◌*◌, ap}
use Rattle.roots.specs.Table.{table_root}
use Rattle.batches.specs.Lanes.{spread_lane, five_pairs, turned_value}
use Rattle.batches.proofs.Sums.{five_good}
use Rattle.batches.proofs.LaneLists.{five_as, held_by, lane_value, low_by, plain_lane, shifted_by, summed_next, summed_start, turned_asks}
use Rattle.batches.proofs.blocks.five.Goals as goal

pub loop-v-init : goal.loop-v-init
loop-v-init g c = summed_start c.told-y

pub part-r0-requires : goal.part-r0-requires
part-r0-requires g c = (omega arith, omega arith, c.requires.apart.0.inside 0 (omega arith), c.requires.apart.1)

pub part-s0-requires : goal.part-s0-requires
part-s0-requires g c = (omega arith, omega arith, c.requires.apart.0.inside 0 (omega arith), c.requires.apart.1)

pub overflow_mul-k-2 : goal.overflow_mul-k-2
overflow_mul-k-2 g c = omega (arith, c.requires.apart.0.exponents 3 (omega arith))

pub factor_at-w3-requires : goal.factor_at-w3-requires
factor_at-w3-requires g c = (c.requires.modulus.0, omega (arith, c.requires.apart.0.exponents 3 (omega arith)), omega (arith, c.requires.modulus.2.low_im (3 * c.args.at.k)))

pub overflow_mul-k-3 : goal.overflow_mul-k-3
overflow_mul-k-3 g c = omega (arith, c.requires.apart.0.exponents 4 (omega arith))

pub factor_at-w4-requires : goal.factor_at-w4-requires
factor_at-w4-requires g c = (c.requires.modulus.0, omega (arith, c.requires.apart.0.exponents 4 (omega arith)), omega (arith, c.requires.modulus.2.low_im (4 * c.args.at.k)))

pub turned_re-r1-requires-clause-modulus : goal.turned_re-r1-requires-clause-modulus
turned_re-r1-requires-clause-modulus g c = turned_asks c.requires.modulus c.requires.apart.0 c.requires.apart.1 c.loop-v.v 1 c.args.at.k (omega arith) (omega arith) (omega arith) c.factor_at-w1.ensures

pub turned_im-s1-requires-clause-modulus : goal.turned_im-s1-requires-clause-modulus
turned_im-s1-requires-clause-modulus g c = turned_asks c.requires.modulus c.requires.apart.0 c.requires.apart.1 c.loop-v.v 1 c.args.at.k (omega arith) (omega arith) (omega arith) c.factor_at-w1.ensures

pub turned_re-r2-requires-clause-modulus : goal.turned_re-r2-requires-clause-modulus
turned_re-r2-requires-clause-modulus g c = turned_asks c.requires.modulus c.requires.apart.0 c.requires.apart.1 c.loop-v.v 2 (2 * c.args.at.k) (omega arith) (omega arith) (omega arith) c.factor_at-w2.ensures

pub turned_im-s2-requires-clause-modulus : goal.turned_im-s2-requires-clause-modulus
turned_im-s2-requires-clause-modulus g c = turned_asks c.requires.modulus c.requires.apart.0 c.requires.apart.1 c.loop-v.v 2 (2 * c.args.at.k) (omega arith) (omega arith) (omega arith) c.factor_at-w2.ensures

pub turned_re-r3-requires-clause-modulus : goal.turned_re-r3-requires-clause-modulus
turned_re-r3-requires-clause-modulus g c = turned_asks c.requires.modulus c.requires.apart.0 c.requires.apart.1 c.loop-v.v 3 (3 * c.args.at.k) (omega arith) (omega arith) (omega arith) c.factor_at-w3.ensures

pub turned_im-s3-requires-clause-modulus : goal.turned_im-s3-requires-clause-modulus
turned_im-s3-requires-clause-modulus g c = turned_asks c.requires.modulus c.requires.apart.0 c.requires.apart.1 c.loop-v.v 3 (3 * c.args.at.k) (omega arith) (omega arith) (omega arith) c.factor_at-w3.ensures

pub turned_re-r4-requires-clause-modulus : goal.turned_re-r4-requires-clause-modulus
turned_re-r4-requires-clause-modulus g c = turned_asks c.requires.modulus c.requires.apart.0 c.requires.apart.1 c.loop-v.v 4 (4 * c.args.at.k) (omega arith) (omega arith) (omega arith) c.factor_at-w4.ensures

pub turned_im-s4-requires-clause-modulus : goal.turned_im-s4-requires-clause-modulus
turned_im-s4-requires-clause-modulus g c = turned_asks c.requires.modulus c.requires.apart.0 c.requires.apart.1 c.loop-v.v 4 (4 * c.args.at.k) (omega arith) (omega arith) (omega arith) c.factor_at-w4.ensures

pub of_five-p-requires-clause-modulus : goal.of_five-p-requires-clause-modulus
of_five-p-requires-clause-modulus g c = (
  c.requires.modulus.0,
  held_by c.requires.modulus.2 576 c.factor_at-w.ensures,
  held_by c.requires.modulus.2 1152 c.factor_at-z.ensures,
  ap (λ (n : ℕ). 8 * n) c.modulus-o.ensures.0,
  c.part-r0.ensures.1,
)

pub of_five-q-requires-clause-modulus : goal.of_five-q-requires-clause-modulus
of_five-q-requires-clause-modulus g c = (
  c.requires.modulus.0,
  held_by c.requires.modulus.2 576 c.factor_at-w.ensures,
  held_by c.requires.modulus.2 1152 c.factor_at-z.ensures,
  ap (λ (n : ℕ). 8 * n) c.modulus-o.ensures.0,
  c.part-s0.ensures.1,
)

pub loop-v-preserved : goal.loop-v-preserved
unfolding spread_lane
loop-v-preserved g c =
    let m = c.args.m in
    let at = c.args.at in
    let from = c.args.from.now in
    let v = c.loop-v.v in
    let modulus = c.requires.modulus in
    let eight = ap (λ (n : ℕ). 8 * n) c.modulus-o.ensures.0 in
    let values = turned_value m (table_root m c.args.re.now c.args.im.now) at from v in
    summed_next (five_pairs c.of_five-p.result c.of_five-q.result) c.loop-v.invariant (omega arith) (omega arith) (cc)
    (λ X up. five_good modulus.1 values eight
    (five_as c.apart-g.ensures c.apart-i.ensures c.of_five-p.ensures) (five_as c.apart-h.ensures c.apart-j.ensures c.of_five-q.ensures)
    (shifted_by modulus.2 576 (omega arith) c.factor_at-w.ensures) (shifted_by modulus.2 1152 (omega arith) c.factor_at-z.ensures)
    (plain_lane m _ at from v 0 (omega arith) c.part-r0.ensures.0 c.part-s0.ensures.0)
    (lane_value _ modulus.1 modulus.2 c.requires.apart.0 v 1 c.requires.first (omega arith) (omega arith) c.factor_at-w1.ensures
    c.turned_re-r1.ensures.plain c.turned_re-r1.ensures.turned c.turned_im-s1.ensures.plain c.turned_im-s1.ensures.turned)
    (lane_value _ modulus.1 modulus.2 c.requires.apart.0 v 2 c.requires.first (omega arith) (omega arith) c.factor_at-w2.ensures
    c.turned_re-r2.ensures.plain c.turned_re-r2.ensures.turned c.turned_im-s2.ensures.plain c.turned_im-s2.ensures.turned)
    (lane_value _ modulus.1 modulus.2 c.requires.apart.0 v 3 c.requires.first (omega arith) (omega arith) c.factor_at-w3.ensures
    c.turned_re-r3.ensures.plain c.turned_re-r3.ensures.turned c.turned_im-s3.ensures.plain c.turned_im-s3.ensures.turned)
    (lane_value _ modulus.1 modulus.2 c.requires.apart.0 v 4 c.requires.first (omega arith) (omega arith) c.factor_at-w4.ensures
    c.turned_re-r4.ensures.plain c.turned_re-r4.ensures.turned c.turned_im-s4.ensures.plain c.turned_im-s4.ensures.turned)
    (omega arith) (omega arith) (omega arith) (omega arith) (omega arith) (omega arith) (omega arith) (omega arith)
    (low_by up _ c.part-r0.ensures.0) (low_by up _ c.part-s0.ensures.0))
