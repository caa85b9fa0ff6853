-- The checksum so far goes on over the bytes from x on.
use Rattle.std.proofs.Common.{◌≡◌, ◌<◌, drop}
use Rattle.test_io.specs.Checksum.{checksum_from}
use Rattle.test_io.proofs.byte_checksum.Given as goal

abbrev pub invariant-loop-x : goal.invariant-loop-x
invariant-loop-x l = (l.h < 2147483647) × (checksum_from l.h (drop l.x-index l.v) ≡ checksum_from 7 l.v)
