use Rattle.output.proofs.Writing.{bytes_next}
use Rattle.output.proofs.put_bytes.Goals as goal

pub loop-byte-preserved : goal.loop-byte-preserved
loop-byte-preserved c = bytes_next _ c.loop-byte-test.true c.loop-byte.invariant c.put_byte-place.ensures
