-- Equal jobs and volumes give equal files.
use Rattle.demands.proofs.read_back.EqualFiles.{equal_files}
use Rattle.demands.proofs.read_back.equal_files.Statement.{statement}
use Rattle.demands.proofs.read_back.equal_files.Tie as tie

returns : tie.Need-returns
returns c = equal_files

pub equal_files_spec : {M : Type 1} → statement M
equal_files_spec = tie.close (tie.spec returns)
