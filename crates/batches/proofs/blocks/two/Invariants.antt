use Rattle.roots.specs.Table.{table_root}
use Rattle.batches.specs.Lanes.{Summed}
use Rattle.batches.proofs.blocks.two.Given as goal

abbrev pub invariant-loop-v : goal.invariant-loop-v
invariant-loop-v g l = Summed l.m (table_root l.m l.re l.im) 2 l.at l.from l.v l.y
