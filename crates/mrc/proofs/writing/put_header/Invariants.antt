-- The words before k are written.
use Rattle.std.proofs.Common.{get_or}
use Rattle.output.specs.Output.{each, little_endian}
use Rattle.output.specs.Written.{Wrote}
use Rattle.mrc.proofs.writing.put_header.Given as goal

abbrev pub invariant-loop-k : goal.invariant-loop-k
invariant-loop-k l = Wrote l.at (each l.k (λ k. little_endian 4 (get_or l.words k 0))) l.fn.out l.place l.out
