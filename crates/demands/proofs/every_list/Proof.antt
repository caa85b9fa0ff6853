use Rattle.demands.proofs.Starts.{every_start}
use Rattle.demands.proofs.every_list.Statement.{statement}
use Rattle.demands.proofs.every_list.Tie as tie

returns : tie.Need-returns
returns c = every_start

pub every_list_spec : {M : Type 1} → statement M
every_list_spec = tie.close (tie.spec returns)
