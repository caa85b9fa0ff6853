-- The laws of the root, for both moduli.
use Rattle.roots.proofs.RootLaws.{root_laws}
use Rattle.roots.proofs.root_laws.Goals as goal

pub returns : goal.returns
returns c = root_laws
