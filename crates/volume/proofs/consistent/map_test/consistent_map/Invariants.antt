-- The planes before z agree.
use Rattle.std.proofs.Common.{◌≡◌, true, ◌*◌, ◌/◌}
use Rattle.algebra.specs.cells.Cell.{below}
use Rattle.cell.specs.Operations.{cell_group, cell_halves}
use Rattle.cell.specs.TestSteps.{row_agrees}
use Rattle.volume.proofs.consistent.map_test.consistent_map.Given as goal

abbrev pub invariant-loop-z : goal.invariant-loop-z
invariant-loop-z l = below l.z (λ z. below (2 * (l.fn.cell.n1 / 2)) (λ x. row_agrees (cell_group l.fn.cell) (cell_halves l.fn.cell) l.fn.volume z x)) ≡ true
