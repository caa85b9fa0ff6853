use Rattle.demands.proofs.Starts.{images_alike}
use Rattle.demands.proofs.images_alike.Statement.{statement}
use Rattle.demands.proofs.images_alike.Tie as tie

returns : tie.Need-returns
returns c = images_alike

pub images_alike_spec : {M : Type 1} → statement M
images_alike_spec = tie.close (tie.spec returns)
