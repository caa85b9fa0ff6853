-- A file of no records, read and written.
use Rattle.demands.proofs.read_back.EmptyFiles.{empty_files}
use Rattle.demands.proofs.read_back.empty_files.Statement.{statement}
use Rattle.demands.proofs.read_back.empty_files.Tie as tie

returns : tie.Need-returns
returns c = empty_files

pub empty_files_spec : {M : Type 1} → statement M
empty_files_spec = tie.close (tie.spec returns)
