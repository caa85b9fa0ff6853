-- What was written is read back.
use Rattle.demands.proofs.read_back.ReadBack.{reads_back}
use Rattle.demands.proofs.read_back.reads_back.Statement.{statement}
use Rattle.demands.proofs.read_back.reads_back.Tie as tie

returns : tie.Need-returns
returns c = reads_back

pub reads_back_spec : {M : Type 1} → statement M
reads_back_spec = tie.close (tie.spec returns)
