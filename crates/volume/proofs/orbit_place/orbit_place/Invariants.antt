-- The least place of the images under the operations before this number; at first the length of the volume.
use Rattle.std.proofs.Common.{◌≡◌, drop}
use Rattle.algebra.specs.cells.Cell.{full}
use Rattle.cell.specs.OrbitPlace.{least_place, orbit_place}
use Rattle.cell.specs.Operations.{cell_group, cell_halves, triple_of}
use Rattle.volume.proofs.orbit_place.orbit_place.Given as goal

abbrev pub invariant-loop-number : goal.invariant-loop-number
invariant-loop-number l =
    orbit_place (cell_group l.cell) (cell_halves l.cell) (triple_of l.j)
    ≡ least_place (cell_group l.cell) (cell_halves l.cell) (drop l.number (full (cell_group l.cell))) (triple_of l.j) l.place
