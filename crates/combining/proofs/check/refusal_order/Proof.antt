-- The theorem of proofs/Orders, promised.
use Rattle.combining.proofs.Orders.{combine_refusals}
use Rattle.combining.proofs.check.refusal_order.Statement.{statement}
use Rattle.combining.proofs.check.refusal_order.Tie as tie

returns : tie.Need-returns
returns c = combine_refusals

pub refusal_order_spec : {M : Type 1} → statement M
refusal_order_spec = tie.close (tie.spec returns)
