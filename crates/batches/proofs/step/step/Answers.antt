-- Each turn fills the places of one butterfly.
use Rattle.std.proofs.Common.{arith}
use Rattle.plain.proofs.step.Sizes.{outer_pos}
use Rattle.batches.proofs.PassingLanes.{passing_apart, passing_stores, passing_first, passing_base, passing_exponent, passing_next, passing_again, passing_all, passing_done, up_of}
use Rattle.batches.proofs.LaneLaw.{lane_parts}
use Rattle.batches.proofs.step.step.Goals as goal
use Rattle.batches.proofs.step.step.Goals.{then-a-inner, else-a-inner}

pub outer_sums-requires-clause-le_outer : goal.outer_sums-requires-clause-le_outer
outer_sums-requires-clause-le_outer c =
    let h = c.requires.splits.0 in
    (h.low, h.high, passing_apart c.loop-first.invariant.0 c.loop-first-test.true h c.requires.splits.1, c.requires.up_to.0, c.loop-first.invariant.1)

pub outer_sums-requires-clause-gap_nonzero : goal.outer_sums-requires-clause-gap_nonzero
outer_sums-requires-clause-gap_nonzero c =
    let v = c.loop-first.invariant.0 in
    let l = c.loop-first-test.true in
    (c.requires.splits.0.inner, passing_stores v l, λ one. passing_first v l (c.requires.up_to.1 one) one)

pub overflow_add-base : goal.overflow_add-base
overflow_add-base c = omega (arith, passing_base c.loop-first.invariant.0 c.loop-first-test.true c.requires.splits.0)

pub overflow_add-k : goal.overflow_add-k
overflow_add-k c = omega (arith, passing_exponent c.loop-first.invariant.0 c.loop-first-test.true c.requires.splits.0)

pub overflow_add-base-then-a-inner : goal.overflow_add-base-then-a-inner
overflow_add-base-then-a-inner c = omega (arith, passing_base c.loop-first.invariant.0 c.loop-first-test.true c.requires.splits.0)

pub loop-first-preserved : goal.loop-first-preserved
loop-first-preserved c = (
  elim c.if-a-inner.branch [
    | then-a-inner w ↦ rw (w.a-is, w.base-is, w.k-is) (passing_again c.loop-first.invariant.0 c.loop-first-test.true c.outer_sums.ensures.0 (outer_pos c.requires.splits.0) w.if-a-inner.true)
    | else-a-inner w ↦ rw (w.a-is, w.base-is, w.k-is) (passing_next c.loop-first.invariant.0 c.loop-first-test.true c.outer_sums.ensures.0 w.if-a-inner.false)
  ],
  c.outer_sums.ensures.1,
)

pub returns-clause-stepped_lanes : goal.returns-clause-stepped_lanes
returns-clause-stepped_lanes c = passing_done c.loop-first.invariant.0 c.loop-first-test.false c.requires.up_to.0

pub returns-clause-by_index : goal.returns-clause-by_index
returns-clause-by_index c =
    λ X up. up_of c.loop-first.invariant.0.long (λ v j hv lj. let g = passing_all c.loop-first.invariant.0 c.loop-first-test.false X up v j hv lj in (g.re, g.im))

pub returns-clause-lane_parts : goal.returns-clause-lane_parts
returns-clause-lane_parts c =
    let left = passing_done c.loop-first.invariant.0 c.loop-first-test.false c.requires.up_to.0 in
    record { each = λ v lv X came. lane_parts c.args.m _ left lv c.requires.splits.0 c.requires.modulus.1.cycle X came }
