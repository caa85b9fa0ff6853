use Rattle.faults.proofs.FewestOpenings.{fewest_are_opened}
use Rattle.faults.proofs.fewest_are_opened.Statement.{statement}
use Rattle.faults.proofs.fewest_are_opened.Tie as tie

returns : tie.Need-returns
returns c = fewest_are_opened

pub fewest_are_opened_spec : {M : Type 1} → statement M
fewest_are_opened_spec = tie.close (tie.spec returns)
