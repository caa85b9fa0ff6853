-- The theorem of proofs/Orders, promised.
use Rattle.factor_file.proofs.Orders.{file_refusals}
use Rattle.factor_file.proofs.refusal_order.Statement.{statement}
use Rattle.factor_file.proofs.refusal_order.Tie as tie

returns : tie.Need-returns
returns c = file_refusals

pub refusal_order_spec : {M : Type 1} → statement M
refusal_order_spec = tie.close (tie.spec returns)
