-- `job::turns_synthesise`: the theorem of proofs/Turns.
use Rattle.job.proofs.Turns.{turns_synthesise}
use Rattle.job.proofs.turns_synthesise.Statement.{statement}
use Rattle.job.proofs.turns_synthesise.Tie as tie

returns : tie.Need-returns
returns c = turns_synthesise

pub turns_synthesise_spec : {M : Type 1} → statement M
turns_synthesise_spec = tie.close (tie.spec returns)
