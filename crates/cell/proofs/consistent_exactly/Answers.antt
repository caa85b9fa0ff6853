-- `cell::consistent_exactly`: the theorems of proofs/Consistency and proofs/Maps.
use Rattle.cell.proofs.Consistency.{factors_consistent}
use Rattle.cell.proofs.Maps.{map_consistent}
use Rattle.cell.proofs.consistent_exactly.Goals as goal

pub returns : goal.returns
returns c = record {
  factors = λ g a long m v len small. factors_consistent g a long m v len small;
  maps = λ g a long m v len small. map_consistent g a long m v len small;
}
