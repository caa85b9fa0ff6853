-- The paper's printed specimen holds.
use Rattle.printing.proofs.Specimen.{specimen_printed}
use Rattle.printing.proofs.printed_specimen.Statement.{statement}
use Rattle.printing.proofs.printed_specimen.Tie as tie

returns : tie.Need-returns
returns c = specimen_printed

pub printed_specimen_spec : {M : Type 1} → statement M
printed_specimen_spec = tie.close (tie.spec returns)
