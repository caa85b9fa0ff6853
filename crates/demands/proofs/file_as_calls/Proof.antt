-- `demands::file_as_calls`: the theorem of proofs/FileRecords.
use Rattle.demands.proofs.FileRecords.{file_as_calls}
use Rattle.demands.proofs.file_as_calls.Statement.{statement}
use Rattle.demands.proofs.file_as_calls.Tie as tie

returns : tie.Need-returns
returns c = file_as_calls

pub file_as_calls_spec : {M : Type 1} → statement M
file_as_calls_spec = tie.close (tie.spec returns)
