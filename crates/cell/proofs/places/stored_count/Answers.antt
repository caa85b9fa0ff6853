-- The factors along l that each group stores.
use mathlib.Core.Path.{ap}
use native.Mathlib.Omega.{arith}
use Rattle.algebra.specs.cells.Cell.{span}
use Rattle.cell.specs.Volume.{group_of}
use Rattle.cell.proofs.PlaceLaws.{half_span}
use Rattle.cell.proofs.places.stored_count.Goals as goal

pub returns-then-cell-eq0 : goal.returns-then-cell-eq0
unfolding span
returns-then-cell-eq0 c = rw (ap group_of c.if-cell-eq0.true) (omega arith)

pub returns-else-cell-eq0 : goal.returns-else-cell-eq0
returns-else-cell-eq0 c = half_span _ _ c.requires.known c.if-cell-eq0.false
