-- The places below t (`Summing`).
use Rattle.folded_batches.proofs.MirrorShort.{Summing}
use Rattle.folded_batches.proofs.mirror.before.odd_sums.Given as goal

abbrev pub invariant-loop-t : goal.invariant-loop-t
invariant-loop-t l = Summing l.m l.a l.first l.line l.t l.odds
