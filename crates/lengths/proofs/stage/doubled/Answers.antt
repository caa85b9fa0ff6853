-- The loop's invariant is `Doubling`: the factors that are passed are kept.
use native.Mathlib.Omega.{arith}
use Rattle.lengths.proofs.stage.Doubling.{doubling_start, doubled_end, doubled_here, doubling_next, place_low}
use Rattle.lengths.proofs.stage.doubled.Goals as goal

pub loop-left-init : goal.loop-left-init
loop-left-init c = doubling_start c.args.factors

pub overflow_mul-result : goal.overflow_mul-result
overflow_mul-result c = omega (arith, place_low c.loop-left.invariant c.loop-left-test.true)

pub overflow_add-result : goal.overflow_add-result
overflow_add-result c = omega (arith, place_low c.loop-left.invariant c.loop-left-test.true)

pub returns-then-left-eq2 : goal.returns-then-left-eq2
returns-then-left-eq2 c = doubled_here c.loop-left.invariant c.loop-left-test.true (omega arith)

pub overflow_mul-place : goal.overflow_mul-place
overflow_mul-place c = omega (arith, place_low c.loop-left.invariant c.loop-left-test.true)

pub loop-left-preserved : goal.loop-left-preserved
loop-left-preserved c = doubling_next c.loop-left.invariant c.loop-left-test.true (omega arith)

pub returns : goal.returns
returns c = doubled_end c.loop-left.invariant (omega arith)
