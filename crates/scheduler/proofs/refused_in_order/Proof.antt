use Rattle.scheduler.proofs.Refused.{refused_in_order}
use Rattle.scheduler.proofs.refused_in_order.Statement.{statement}
use Rattle.scheduler.proofs.refused_in_order.Tie as tie

returns : tie.Need-returns
returns c = refused_in_order

pub refused_in_order_spec : {M : Type 1} → statement M
refused_in_order_spec = tie.close (tie.spec returns)
