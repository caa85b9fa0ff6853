-- The numbers before n are done.
use Rattle.std.proofs.Common.{length, get_or}
use Rattle.slices.specs.Filling.{Filling, stores}
use Rattle.combined.specs.Chinese.{combined}
use Rattle.combined.proofs.chinese.combine_all.Given as goal

abbrev pub invariant-loop-n : goal.invariant-loop-n
invariant-loop-n l = Filling stores (λ k. k) (λ k. combined (get_or l.first k 0) (get_or l.second k 0)) (length l.first) l.n l.fn.output l.output
