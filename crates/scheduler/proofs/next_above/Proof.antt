use Rattle.scheduler.proofs.Named.{next_above}
use Rattle.scheduler.proofs.next_above.Statement.{statement}
use Rattle.scheduler.proofs.next_above.Tie as tie

returns : tie.Need-returns
returns c = next_above

pub next_above_spec : {M : Type 1} → statement M
next_above_spec = tie.close (tie.spec returns)
