-- The theorem, as a promise.
use Rattle.printing.proofs.ReadText.{text_reads}
use Rattle.printing.proofs.text_reads.Statement.{statement}
use Rattle.printing.proofs.text_reads.Tie as tie

returns : tie.Need-returns
returns c = text_reads

pub text_reads_spec : {M : Type 1} → statement M
text_reads_spec = tie.close (tie.spec returns)
