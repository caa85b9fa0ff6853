-- The points before y agree.
use Rattle.std.proofs.Common.{◌≡◌, true}
use Rattle.algebra.specs.cells.Cell.{below}
use Rattle.cell.specs.Consistency.{point_agrees}
use Rattle.cell.specs.Lent.{of_volume}
use Rattle.volume.proofs.consistent.map_test.points_agree.Given as goal

abbrev pub invariant-loop-y : goal.invariant-loop-y
invariant-loop-y l = below l.y (λ y. of_volume point_agrees l.v (l.x, y, l.z)) ≡ true
