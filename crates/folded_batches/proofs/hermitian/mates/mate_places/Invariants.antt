-- The places below t (`MatedLanes`).
use Rattle.std.proofs.Common.{◌≡◌, length}
use Rattle.fold_formulas.specs.FoldFormulas.{line_root}
use Rattle.folded_batches.specs.HermitianLanes.{MatedLanes}
use Rattle.folded_batches.proofs.hermitian.mates.mate_places.Given as goal

abbrev pub invariant-loop-t : goal.invariant-loop-t
invariant-loop-t l = MatedLanes l.m l.direction l.b (line_root l.m l.b l.re l.im) l.from l.t l.to × (length l.y ≡ 32)
