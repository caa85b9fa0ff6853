-- `demands::file_occupied`: the theorem of proofs/FileRecords.
use Rattle.demands.proofs.FileRecords.{file_occupied}
use Rattle.demands.proofs.file_occupied.Statement.{statement}
use Rattle.demands.proofs.file_occupied.Tie as tie

returns : tie.Need-returns
returns c = file_occupied

pub file_occupied_spec : {M : Type 1} → statement M
file_occupied_spec = tie.close (tie.spec returns)
