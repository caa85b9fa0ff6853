-- The operations before this number have written; the others are still to come.
use Rattle.std.proofs.Common.{◌≡◌, drop}
use Rattle.algebra.specs.cells.Cell.{full}
use Rattle.numbers.specs.Value.{value_of}
use Rattle.cell.specs.Consistency.{write_images, record_on}
use Rattle.cell.specs.Operations.{cell_group, cell_halves, triple_of}
use Rattle.volume.proofs.record.write_images.Given as goal

abbrev pub invariant-loop-number : goal.invariant-loop-number
invariant-loop-number l =
    record_on (cell_group l.cell) (cell_halves l.cell) l.m (triple_of l.j) (value_of l.m l.x) l.fn.volume
    ≡ write_images (cell_group l.cell) (cell_halves l.cell) l.m (drop l.number (full (cell_group l.cell))) (triple_of l.j) (value_of l.m l.x) l.volume
