-- The records of a written file rise.
use Rattle.demands.proofs.read_back.ReadBack.{file_rises}
use Rattle.demands.proofs.read_back.file_rises.Statement.{statement}
use Rattle.demands.proofs.read_back.file_rises.Tie as tie

returns : tie.Need-returns
returns c = file_rises

pub file_rises_spec : {M : Type 1} → statement M
file_rises_spec = tie.close (tie.spec returns)
