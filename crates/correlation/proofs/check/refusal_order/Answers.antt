-- The theorem of proofs/Orders, promised.
use Rattle.correlation.proofs.Orders.{correlation_refusals}
use Rattle.correlation.proofs.check.refusal_order.Goals as goal

pub returns : goal.returns
returns c = correlation_refusals
