use Rattle.demands.proofs.Order.{order_free}
use Rattle.demands.proofs.order_free.Statement.{statement}
use Rattle.demands.proofs.order_free.Tie as tie

returns : tie.Need-returns
returns c = order_free

pub order_free_spec : {M : Type 1} → statement M
order_free_spec = tie.close (tie.spec returns)
