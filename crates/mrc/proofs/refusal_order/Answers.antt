-- The theorem of proofs/Orders, promised.
use Rattle.mrc.proofs.Orders.{mrc_refusals}
use Rattle.mrc.proofs.refusal_order.Goals as goal

pub returns : goal.returns
returns c = mrc_refusals
