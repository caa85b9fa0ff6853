-- `job::power_kept`: the theorem of proofs/PowersKept.
use Rattle.job.proofs.PowersKept.{power_kept}
use Rattle.job.proofs.power_kept.Statement.{statement}
use Rattle.job.proofs.power_kept.Tie as tie

returns : tie.Need-returns
returns c = power_kept

pub power_kept_spec : {M : Type 1} → statement M
power_kept_spec = tie.close (tie.spec returns)
