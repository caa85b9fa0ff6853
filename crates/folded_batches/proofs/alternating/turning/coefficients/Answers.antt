use Rattle.folded_batches.proofs.AlternatingTurning.{coefficients_plain, coefficients_over, coefficients_back, coefficients_times, coefficients_at, coefficients_of}
use Rattle.folded_batches.proofs.alternating.turning.coefficients.Goals as goal

pub returns-then-rotated : goal.returns-then-rotated
returns-then-rotated c = coefficients_at c.if-direction-eq0.true c.if-rotated.true c.of_one.ensures (coefficients_over c.args.m c.args.a c.args.tan.now c.angle-w.ensures c.shift-one.ensures c.neg.ensures c.neg-then-rotated.ensures)

pub returns-else-rotated : goal.returns-else-rotated
returns-else-rotated c = coefficients_at c.if-direction-eq0.true c.if-rotated.false c.of_one-else-rotated.ensures (coefficients_plain c.args.m c.args.a c.args.tan.now c.angle-w.ensures c.shift-one.ensures)

pub returns-then-rotated-2 : goal.returns-then-rotated-2
returns-then-rotated-2 c = coefficients_of c.if-direction-eq0.false c.if-rotated-2.true c.of_one-then-rotated-2.ensures (coefficients_times c.args.m c.args.a c.args.tan.now c.angle-w.ensures c.shift-one.ensures c.neg-then-rotated-2.ensures c.neg-then-rotated-2-2.ensures)

pub returns-else-rotated-2 : goal.returns-else-rotated-2
returns-else-rotated-2 c = coefficients_of c.if-direction-eq0.false c.if-rotated-2.false c.of_one-else-rotated-2.ensures (coefficients_back c.args.m c.args.a c.args.tan.now c.angle-w.ensures c.shift-one.ensures c.neg-else-rotated-2.ensures c.neg-else-rotated-2-2.ensures)
