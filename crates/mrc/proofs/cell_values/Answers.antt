-- The theorem, as a promise.
use Rattle.mrc.proofs.Densities.{cell_values}
use Rattle.mrc.proofs.cell_values.Goals as goal

pub returns : goal.returns
returns c = cell_values
