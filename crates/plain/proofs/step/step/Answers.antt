use Rattle.std.proofs.Common.{arith}
use native.Mathlib.Nat.{mul-le-mul_right}
use Rattle.plain.proofs.Stepping.{step_parts}
use Rattle.plain.proofs.step.Passing.{passing_next, passing_done, turn_first, turn_exponent, turn_reads, turn_stores}
use Rattle.plain.proofs.step.step.Goals as goal

pub overflow_add-at : goal.overflow_add-at
overflow_add-at c = omega (arith, turn_first c.loop-q-test.true c.loop-a-test.true c.requires.splits)

pub overflow_mul-at-in-loop-a-2 : goal.overflow_mul-at-in-loop-a-2
overflow_mul-at-in-loop-a-2 c = omega (arith, turn_exponent c.loop-q-test.true c.loop-a-test.true c.requires.splits)

pub outer_sums-requires-clause-le_outer : goal.outer_sums-requires-clause-le_outer
outer_sums-requires-clause-le_outer c =
    let s = c.requires.splits in
    (s.low, s.high, turn_reads c.loop-q-test.true c.loop-a-test.true s c.requires.from_len.0, turn_stores c.loop-q-test.true c.loop-a-test.true c.loop-a.invariant.long)

pub loop-a-preserved : goal.loop-a-preserved
loop-a-preserved c = passing_next c.loop-q-test.true c.loop-a-test.true c.loop-a.invariant c.outer_sums.ensures

pub returns-clause-to_after : goal.returns-clause-to_after
returns-clause-to_after c = passing_done c.loop-q.invariant (mul-le-mul_right c.args.inner c.loop-q-test.false)

pub returns-clause-by_index : goal.returns-clause-by_index
returns-clause-by_index c = λ X came.
    step_parts c.args.m _ c.requires.modulus.1.cycle c.requires.splits X came (passing_done c.loop-q.invariant (mul-le-mul_right c.args.inner c.loop-q-test.false))
