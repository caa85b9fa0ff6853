-- The digits of the rest are still to be counted.
use native.Mathlib.Omega.{arith}
use Rattle.file_format.proofs.layout.Digits.{digit_more, digit_none, word_digits}
use Rattle.file_format.proofs.layout.digit_count.Goals as goal

pub overflow_add-count : goal.overflow_add-count
overflow_add-count c =
    omega (arith, c.loop-rest.invariant, word_digits c.args.factors (omega arith))

pub loop-rest-preserved : goal.loop-rest-preserved
loop-rest-preserved c = omega (arith, c.loop-rest.invariant, digit_more c.loop-rest.rest c.loop-rest-test.true)

pub returns : goal.returns
returns c = omega (arith, c.loop-rest.invariant, digit_none c.loop-rest.rest c.loop-rest-test.false)
