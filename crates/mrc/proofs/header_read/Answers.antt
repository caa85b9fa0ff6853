-- The theorem, as a promise.
use Rattle.mrc.proofs.Reading.{header_read}
use Rattle.mrc.proofs.header_read.Goals as goal

pub returns : goal.returns
returns c = header_read
