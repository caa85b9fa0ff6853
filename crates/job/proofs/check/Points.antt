-- A point or an index of the cell.
use mathlib.Core.Path.{◌≡◌}
use mathlib.Core.Bool.{true}
use lib.Dec.{ltb}
use borrow.Author.Tests.{ltb-true}
use Rattle.cell.specs.declared.operations.Index.{Index}
use Rattle.cell.specs.declared.operations.Point.{Point}
use Rattle.cell.specs.declared.operations.UnitCell.{UnitCell}
use Rattle.cell.specs.Operations.{cell_lengths, triple_of, point_of, Within, PointWithin}
use Rattle.job.specs.Job.{within}
use Rattle.header.proofs.Headers.{all_three}

pub within_of : (cell : UnitCell) (at : Index) → within (cell_lengths cell) (triple_of at) ≡ true → Within cell at
within_of cell at e =
    let t = all_three (ltb at.h cell.n1) (ltb at.k cell.n2) (ltb at.l cell.n3) e in
    record { h = ltb-true _ _ t.0; k = ltb-true _ _ t.1; l = ltb-true _ _ t.2 }

pub point_within_of : (cell : UnitCell) (p : Point) → within (cell_lengths cell) (point_of p) ≡ true → PointWithin cell p
point_within_of cell p e =
    let t = all_three (ltb p.x cell.n1) (ltb p.y cell.n2) (ltb p.z cell.n3) e in
    record { x = ltb-true _ _ t.0; y = ltb-true _ _ t.1; z = ltb-true _ _ t.2 }
