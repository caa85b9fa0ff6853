use Rattle.demands.proofs.Order.{alike_starts}
use Rattle.demands.proofs.alike_starts.Statement.{statement}
use Rattle.demands.proofs.alike_starts.Tie as tie

returns : tie.Need-returns
returns c = alike_starts

pub alike_starts_spec : {M : Type 1} → statement M
alike_starts_spec = tie.close (tie.spec returns)
