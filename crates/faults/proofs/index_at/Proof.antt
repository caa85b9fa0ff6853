-- Its index is the record's.
use borrow.Author.Rules.{rules}
use mathlib.Core.Path.{ap}
use Rattle.file_format.specs.declared.FileRecord.{FileRecord}
use Rattle.factor_file.specs.File.{index_in}
use Rattle.faults.proofs.index_at.Statement.{statement}
use Rattle.faults.proofs.index_at.Tie as tie
use Rattle.faults.proofs.index_at.Reads as reads
use Rattle.faults.proofs.index_at.Lts as lts
use Rattle.file_format.proofs.reader.standing_record.Reads as standing-record-reads

standing_record-c-requires : tie.Need-standing_record-c-requires
standing_record-c-requires c κs = search rules

returns : tie.Need-returns
returns c = ap (λ (r : FileRecord). index_in r) c.standing_record-c.ensures

pub index_at_spec : {M : Type 1} → statement M
index_at_spec = tie.close (tie.spec standing_record-c-requires returns)
