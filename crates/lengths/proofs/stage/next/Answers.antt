-- The next factor is at least 2, and the product of the factors stays a divisor of 2,880.
use mathlib.Core.Path.{refl}
use native.Mathlib.Omega.{arith}
use Rattle.lengths.specs.Stages.{after}
use Rattle.lengths.proofs.stage.Staging.{next_low, next_inner}
use Rattle.lengths.proofs.stage.next.Goals as goal

pub overflow_mul-longer : goal.overflow_mul-longer
overflow_mul-longer c = omega (arith, next_inner c.requires)

pub nonzero_div-result-2 : goal.nonzero_div-result-2
nonzero_div-result-2 c = omega (arith, next_low c.requires)

pub returns : goal.returns
unfolding after
returns c = refl
