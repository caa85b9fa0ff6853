use Rattle.std.proofs.Common.{◌≡◌, length}
use Rattle.roots.specs.Table.{table_root}
use Rattle.batches.proofs.PassingLanes.{PassingLanes}
use Rattle.batches.proofs.step.step.Given as goal

abbrev pub invariant-loop-first : goal.invariant-loop-first
invariant-loop-first l = PassingLanes l.m (table_root l.m l.re l.im) l.from l.inner l.outer l.lines l.first l.a l.base l.k l.to × (length l.y ≡ 160)
