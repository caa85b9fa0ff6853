-- The table of the paper's starred specimens holds.
use Rattle.demands.proofs.specimens.Starred.{specimens_hold}
use Rattle.demands.proofs.specimens.starred_specimens.Statement.{statement}
use Rattle.demands.proofs.specimens.starred_specimens.Tie as tie

returns : tie.Need-returns
returns c = specimens_hold

pub starred_specimens_spec : {M : Type 1} → statement M
starred_specimens_spec = tie.close (tie.spec returns)
