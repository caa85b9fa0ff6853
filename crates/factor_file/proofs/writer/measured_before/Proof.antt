use Rattle.factor_file.proofs.Measuring.{measured_before}
use Rattle.factor_file.proofs.writer.measured_before.Statement.{statement}
use Rattle.factor_file.proofs.writer.measured_before.Tie as tie

returns : tie.Need-returns
returns c = measured_before

pub measured_before_spec : {M : Type 1} → statement M
measured_before_spec = tie.close (tie.spec returns)
