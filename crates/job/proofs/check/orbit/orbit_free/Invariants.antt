-- No operation before i stops the scan.
use Rattle.std.proofs.Common.{◌≡◌, drop}
use Rattle.algebra.specs.cells.Cell.{full, every}
use Rattle.cell.specs.Consistency.{orbit_free}
use Rattle.cell.specs.Operations.{cell_group, cell_halves, triple_of}
use Rattle.job.proofs.check.orbit.TestLaws.{free_under}
use Rattle.job.proofs.check.orbit.orbit_free.Given as goal

abbrev pub invariant-loop-i : goal.invariant-loop-i
invariant-loop-i l = orbit_free (cell_group l.cell) (cell_halves l.cell) l.volume (triple_of l.j) ≡ every (drop l.i (full (cell_group l.cell))) (free_under (cell_group l.cell) (cell_halves l.cell) l.volume (triple_of l.j))
