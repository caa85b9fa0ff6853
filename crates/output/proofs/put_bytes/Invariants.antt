-- The bytes before the index are written.
use Rattle.std.proofs.Common.{take}
use Rattle.output.specs.Written.{Wrote}
use Rattle.output.proofs.put_bytes.Given as goal

abbrev pub invariant-loop-byte : goal.invariant-loop-byte
invariant-loop-byte l = Wrote l.at (take l.byte-index l.text) l.fn.out l.place l.out
