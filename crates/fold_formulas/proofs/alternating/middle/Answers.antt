-- The parity of A tells which part the number is.
use Rattle.fold_formulas.proofs.alternating.Middles.{middle_even, middle_odd}
use Rattle.fold_formulas.proofs.alternating.middle.Goals as goal

pub returns-then-a-eq0 : goal.returns-then-a-eq0
returns-then-a-eq0 c m l = middle_even m c.args.a c.args.x l c.if-a-eq0.true

pub returns-else-a-eq0 : goal.returns-else-a-eq0
returns-else-a-eq0 c m l = middle_odd m c.args.a c.args.x l c.if-a-eq0.false
