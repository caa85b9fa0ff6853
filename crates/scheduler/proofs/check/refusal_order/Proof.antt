-- The theorem of proofs/Orders, promised.
use Rattle.scheduler.proofs.Orders.{scheduler_refusals}
use Rattle.scheduler.proofs.check.refusal_order.Statement.{statement}
use Rattle.scheduler.proofs.check.refusal_order.Tie as tie

returns : tie.Need-returns
returns c = scheduler_refusals

pub refusal_order_spec : {M : Type 1} → statement M
refusal_order_spec = tie.close (tie.spec returns)
