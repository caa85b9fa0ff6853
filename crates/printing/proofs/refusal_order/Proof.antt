-- The theorem of proofs/Orders, promised.
use Rattle.printing.proofs.Orders.{text_refusals}
use Rattle.printing.proofs.refusal_order.Statement.{statement}
use Rattle.printing.proofs.refusal_order.Tie as tie

returns : tie.Need-returns
returns c = text_refusals

pub refusal_order_spec : {M : Type 1} → statement M
refusal_order_spec = tie.close (tie.spec returns)
