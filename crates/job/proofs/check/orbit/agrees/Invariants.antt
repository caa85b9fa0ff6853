-- No operation before i stops the scan.
use Rattle.std.proofs.Common.{◌≡◌, drop}
use Rattle.algebra.specs.cells.Cell.{full, every}
use Rattle.numbers.specs.Value.{value_of}
use Rattle.cell.specs.Consistency.{agrees_with_itself}
use Rattle.cell.specs.Operations.{cell_group, cell_halves, triple_of}
use Rattle.job.proofs.check.orbit.TestLaws.{agrees_under}
use Rattle.job.proofs.check.orbit.agrees.Given as goal

abbrev pub invariant-loop-i : goal.invariant-loop-i
invariant-loop-i l = agrees_with_itself (cell_group l.cell) (cell_halves l.cell) l.m (triple_of l.j) (value_of l.m l.x) ≡ every (drop l.i (full (cell_group l.cell))) (agrees_under (cell_halves l.cell) l.m (triple_of l.j) (value_of l.m l.x))
