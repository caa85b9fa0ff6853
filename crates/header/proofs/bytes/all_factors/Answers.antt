-- Three tests together.
use Rattle.header.proofs.Headers.{three}
use Rattle.header.proofs.bytes.all_factors.Goals as goal

pub returns : goal.returns
returns c = three c.factors_ok.ensures c.factors_ok-2.ensures c.factors_ok-3.ensures
