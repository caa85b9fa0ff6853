-- The theorem, as a promise.
use Rattle.signed.proofs.Centred.{centred_only}
use Rattle.signed.proofs.centred_only.Goals as goal

pub returns : goal.returns
returns c = centred_only
