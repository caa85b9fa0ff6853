use Rattle.faults.proofs.OtherFiles.{others_give_none}
use Rattle.faults.proofs.others_give_none.Statement.{statement}
use Rattle.faults.proofs.others_give_none.Tie as tie

returns : tie.Need-returns
returns c = others_give_none

pub others_give_none_spec : {M : Type 1} → statement M
others_give_none_spec = tie.close (tie.spec returns)
