-- The table tells which quarter turn it is.
use Rattle.butterflies.proofs.quarter_turn.Powers.{quarter_is, quarter_other}
use Rattle.numbers.proofs.unreduced.Unreduced.{times_i_forth, times_i_back}
use Rattle.butterflies.proofs.quarter_turn.difference_times_quarter.Goals as goal

pub returns-then-root_at-eq1 : goal.returns-then-root_at-eq1
returns-then-root_at-eq1 c =
    times_i_forth c.args.m _ _ (quarter_is c.requires.modulus.1 c.root_at.ensures c.if-root_at-eq1.true) (c.difference_times_i.ensures c.args.m c.requires.modulus.0)

pub returns-else-root_at-eq1 : goal.returns-else-root_at-eq1
returns-else-root_at-eq1 c =
    times_i_back c.args.m _ _ (quarter_other c.requires.modulus.1 c.root_at.ensures c.if-root_at-eq1.false) (c.difference_times_i-else-root_at-eq1.ensures c.args.m c.requires.modulus.0)
