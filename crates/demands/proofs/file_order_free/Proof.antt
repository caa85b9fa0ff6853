use Rattle.demands.proofs.Order.{file_order_free}
use Rattle.demands.proofs.file_order_free.Statement.{statement}
use Rattle.demands.proofs.file_order_free.Tie as tie

returns : tie.Need-returns
returns c = file_order_free

pub file_order_free_spec : {M : Type 1} → statement M
file_order_free_spec = tie.close (tie.spec returns)
