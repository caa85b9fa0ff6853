use Rattle.printing.proofs.Opened.{prints_model}
use Rattle.printing.proofs.prints_model.Statement.{statement}
use Rattle.printing.proofs.prints_model.Tie as tie

returns : tie.Need-returns
returns c = prints_model

pub prints_model_spec : {M : Type 1} → statement M
prints_model_spec = tie.close (tie.spec returns)
