-- What was read is written back in one way.
use Rattle.demands.proofs.read_back.EqualFiles.{written_twice}
use Rattle.demands.proofs.read_back.written_twice.Statement.{statement}
use Rattle.demands.proofs.read_back.written_twice.Tie as tie

returns : tie.Need-returns
returns c = written_twice

pub written_twice_spec : {M : Type 1} → statement M
written_twice_spec = tie.close (tie.spec returns)
