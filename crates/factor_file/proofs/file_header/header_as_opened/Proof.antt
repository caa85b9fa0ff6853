use Rattle.factor_file.proofs.HeadersRead.{header_as_opened}
use Rattle.factor_file.proofs.file_header.header_as_opened.Statement.{statement}
use Rattle.factor_file.proofs.file_header.header_as_opened.Tie as tie

returns : tie.Need-returns
returns c = header_as_opened

pub header_as_opened_spec : {M : Type 1} → statement M
header_as_opened_spec = tie.close (tie.spec returns)
