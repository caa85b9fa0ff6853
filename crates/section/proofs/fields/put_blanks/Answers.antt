use Rattle.section.proofs.Blanks.{blanking_start, blanking_ends, blanking_next, blanking_done}
use Rattle.section.proofs.fields.put_blanks.Goals as goal

pub loop-init : goal.loop-init
loop-init c = blanking_start _ _ _ _

pub put_byte-place-requires : goal.put_byte-place-requires
put_byte-place-requires c = blanking_ends c.loop.invariant c.requires c.loop-test.true

pub loop-preserved : goal.loop-preserved
loop-preserved c = blanking_next c.loop.invariant c.loop-test.true c.put_byte-place.ensures

pub returns : goal.returns
returns c = blanking_done c.loop.invariant c.loop-test.false
