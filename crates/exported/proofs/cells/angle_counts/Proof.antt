-- The theorem, as a promise.
use Rattle.exported.proofs.cells.Angles.{angle_counts}
use Rattle.exported.proofs.cells.angle_counts.Statement.{statement}
use Rattle.exported.proofs.cells.angle_counts.Tie as tie

returns : tie.Need-returns
returns c = angle_counts

pub angle_counts_spec : {M : Type 1} → statement M
angle_counts_spec = tie.close (tie.spec returns)
