-- By the parity.
use Rattle.cell.proofs.PlaceLaws.{even_is, odd_is}
use Rattle.volume.proofs.write.alternating_part.Goals as goal

pub returns-then-half-eq0 : goal.returns-then-half-eq0
returns-then-half-eq0 c = rw (even_is _ c.if-half-eq0.true)

pub returns-else-half-eq0 : goal.returns-else-half-eq0
returns-else-half-eq0 c = rw (odd_is _ c.if-half-eq0.false)
