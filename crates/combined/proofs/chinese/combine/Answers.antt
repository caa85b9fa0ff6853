-- The number below the product of both primes, then the one next to zero.
use Rattle.std.proofs.Common.{◌∙◌, w64}
use mir.ValLaws.{to_z-of_z}
use Rattle.combined.specs.Chinese.{common, combined}
use Rattle.combined.proofs.chinese.combine.Goals as goal

pub returns : goal.returns
unfolding common combined
returns c = to_z-of_z w64 c.nearest.result (record { sfits = c.nearest.type_inv }) ∙ c.nearest.ensures
