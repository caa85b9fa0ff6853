-- The theorem, as a promise.
use Rattle.section.proofs.Orders.{section_refusals}
use Rattle.section.proofs.check.refusal_order.Goals as goal

pub returns : goal.returns
returns c = section_refusals
