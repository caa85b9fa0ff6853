-- The theorem of proofs/Orders, promised.
use Rattle.line.proofs.Orders.{line_refusals}
use Rattle.line.proofs.check.refusal_order.Goals as goal

pub returns : goal.returns
returns c = line_refusals
