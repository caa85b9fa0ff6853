use Rattle.demands.proofs.Starts.{refused_start}
use Rattle.demands.proofs.refused_starts.Statement.{statement}
use Rattle.demands.proofs.refused_starts.Tie as tie

returns : tie.Need-returns
returns c = refused_start

pub refused_starts_spec : {M : Type 1} → statement M
refused_starts_spec = tie.close (tie.spec returns)
