-- The grids are computed; the length of the volume is all that is known of it.
use mathlib.Core.Path.{refl}
use Rattle.algebra.specs.cells.Cell.{planes}
use Rattle.refusals.specs.Refusals.{first}
use Rattle.lengths.specs.Lengths.{product, octal, admitted, factors_ok}
use Rattle.job.specs.Job.{open_step}
use Rattle.demands.proofs.specimens.large_grids.Statement.{statement}
use Rattle.demands.proofs.specimens.large_grids.Tie as tie

returns : tie.Need-returns
unfolding open_step first planes admitted factors_ok product octal
returns c = record { shown = ((refl, λ m is v e. rw (is, e) refl), ((refl, λ m is v e. rw is refl), ((refl, λ m is v e. rw (is, e) refl), tt))) }

pub large_grids_spec : {M : Type 1} → statement M
large_grids_spec = tie.close (tie.spec returns)
