use Rattle.scheduler.proofs.Named.{turns_named}
use Rattle.scheduler.proofs.turns_named.Statement.{statement}
use Rattle.scheduler.proofs.turns_named.Tie as tie

returns : tie.Need-returns
returns c = turns_named

pub turns_named_spec : {M : Type 1} → statement M
turns_named_spec = tie.close (tie.spec returns)
