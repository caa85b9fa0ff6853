-- Two numbers of two bytes.
use Rattle.file_format.specs.Format.{four_bytes}
use Rattle.file_format.proofs.integers.four_bytes.Goals as goal

pub returns : goal.returns
unfolding four_bytes
returns c = rw (c.two_bytes.ensures.0, c.two_bytes-2.ensures.0)
