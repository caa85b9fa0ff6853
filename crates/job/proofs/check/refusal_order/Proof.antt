-- The theorem of proofs/Orders, promised.
use Rattle.job.proofs.Orders.{job_refusals}
use Rattle.job.proofs.check.refusal_order.Statement.{statement}
use Rattle.job.proofs.check.refusal_order.Tie as tie

returns : tie.Need-returns
returns c = job_refusals

pub refusal_order_spec : {M : Type 1} → statement M
refusal_order_spec = tie.close (tie.spec returns)
