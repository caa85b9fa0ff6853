-- A turn fills the places of one butterfly (`Passing`).
use Rattle.std.proofs.Common.{◌+◌, ◌*◌}
use Rattle.roots.specs.Table.{table_root}
use Rattle.plain.proofs.step.Passing.{Passing}
use Rattle.plain.proofs.step.step.Given as goal

abbrev pub invariant-loop-q : goal.invariant-loop-q
invariant-loop-q l = Passing l.m (table_root l.m l.re l.im) l.from l.inner l.outer l.lines (l.q * l.inner) l.to

abbrev pub invariant-loop-a : goal.invariant-loop-a
invariant-loop-a l = Passing l.m (table_root l.m l.re l.im) l.from l.inner l.outer l.lines (l.q * l.inner + l.a) l.to
