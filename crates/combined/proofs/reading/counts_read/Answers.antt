-- The theorem, as a promise.
use Rattle.combined.proofs.Readings.{counts_read}
use Rattle.combined.proofs.reading.counts_read.Goals as goal

pub returns : goal.returns
returns c = counts_read
