-- The theorems, as a promise.
use Rattle.combining.proofs.Points.{combined_points, combined_restores}
use Rattle.combining.proofs.combined_points.Statement.{statement}
use Rattle.combining.proofs.combined_points.Tie as tie

returns : tie.Need-returns
returns c = (combined_points, combined_restores)

pub combined_points_spec : {M : Type 1} → statement M
combined_points_spec = tie.close (tie.spec returns)
