-- Only an antisymmetric line leaves pairs out.
use native.Mathlib.Omega.{arith}
use Rattle.volume_transform.proofs.plan.Numbered.{first_of, first_other}
use Rattle.volume_transform.proofs.numbering.first_pair.Goals as goal

pub returns-then-kind-eq5 : goal.returns-then-kind-eq5
returns-then-kind-eq5 c = (first_of _ c.if-kind-eq5.true, omega arith)

pub returns-else-kind-eq5 : goal.returns-else-kind-eq5
returns-else-kind-eq5 c = (first_other _ c.requires c.if-kind-eq5.false, omega arith)
