-- The places below n are done, and the column is that of n.
use Rattle.std.proofs.Common.{suc, ◌*◌, length}
use Rattle.correlation.specs.Correlation.{larger}
use Rattle.correlation.specs.Steps.{magnitude_at}
use Rattle.correlation.proofs.Scans.{Scanned}
use Rattle.correlation.proofs.magnitudes.largest_magnitude.Given as goal

abbrev pub invariant-loop-n : goal.invariant-loop-n
invariant-loop-n l = Scanned larger (magnitude_at l.b l.v) (length l.v) (2 * suc l.b) l.n l.column l.most
