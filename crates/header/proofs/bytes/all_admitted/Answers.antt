-- Three tests together.
use Rattle.header.proofs.Headers.{three}
use Rattle.header.proofs.bytes.all_admitted.Goals as goal

pub returns : goal.returns
returns c = three c.admitted.ensures c.admitted-2.ensures c.admitted-3.ensures
