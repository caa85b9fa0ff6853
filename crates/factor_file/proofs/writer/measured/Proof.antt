use Rattle.factor_file.proofs.Measuring.{measured}
use Rattle.factor_file.proofs.writer.measured.Statement.{statement}
use Rattle.factor_file.proofs.writer.measured.Tie as tie

returns : tie.Need-returns
returns c = measured

pub measured_spec : {M : Type 1} → statement M
measured_spec = tie.close (tie.spec returns)
