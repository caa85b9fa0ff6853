-- The one test.
use mathlib.Core.Path.{sym, ◌∙◌}
use Rattle.refusals.proofs.Tests.{stop, pass, none, not_t, not_f}
use Rattle.mrc.proofs.check_parameters.Goals as goal

pub returns-then-of_group : goal.returns-then-of_group
returns-then-of_group c = pass 29 _ (not_t _ (sym c.of_group.ensures ∙ c.if-of_group.true)) none

pub returns-else-of_group : goal.returns-else-of_group
returns-else-of_group c = stop _ (not_f _ (sym c.of_group.ensures ∙ c.if-of_group.false))
