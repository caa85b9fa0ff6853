-- The mate of 0 is 0.
use borrow.Author.Rules.{rules}
use Rattle.folds.proofs.alternating.after.Back.{mate_zero, mate_rest}
use Rattle.folds.proofs.alternating.after.mate_of.Goals as goal

pub returns-then-t-eq0 : goal.returns-then-t-eq0
returns-then-t-eq0 c = (mate_zero c.args.a c.args.t c.if-t-eq0.true, search rules)

pub returns-else-t-eq0 : goal.returns-else-t-eq0
returns-else-t-eq0 c = (mate_rest c.args.a c.args.t c.if-t-eq0.false, search rules)
