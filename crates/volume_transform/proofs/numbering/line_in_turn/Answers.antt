-- The line of the number.
use mathlib.Core.Path.{subst}
use Rattle.volume_transform.specs.Plans.{LineAt}
use Rattle.volume_transform.proofs.numbering.line_in_turn.Goals as goal

pub returns : goal.returns
returns c = subst (λ j. LineAt c.args.plan j c.line_at.result) c.line_of_turn.ensures.0 c.line_at.ensures.line_at
