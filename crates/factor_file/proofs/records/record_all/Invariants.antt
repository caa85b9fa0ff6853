-- What is left of the records, recorded on the volume as it is, gives what all of them give.
use Prim.Native.Nat.{◌-◌}
use lib.ListN.{length}
use Rattle.cell.specs.Operations.{cell_group, cell_halves}
use Rattle.file_format.specs.Format.{records_in}
use Rattle.factor_file.specs.File.{record_all_on}
use Rattle.factor_file.proofs.Judging.{Recording}
use Rattle.factor_file.proofs.records.record_all.Given as goal

abbrev pub invariant-loop-c : goal.invariant-loop-c
invariant-loop-c l = Recording l.modulus l.cell l.file (record_all_on (cell_group l.cell) (cell_halves l.cell) l.modulus (records_in l.file) l.fn.volume) l.volume l.at

abbrev pub decreases-loop-c : goal.decreases-loop-c
decreases-loop-c l = length l.file - l.at
