-- -k of a k above B is below B.
use Prim.Native.Nat.{◌/◌}
use native.Mathlib.Omega.{arith}
use borrow.Author.Tests.{lt-leb}
use Rattle.algebra.specs.cells.Cell.{flip}
use Rattle.algebra.proofs.cells.CellAxis.{neg_pos}
use Rattle.cell.proofs.places.stored_column.Goals as goal

pub returns-else-j-cell : goal.returns-else-j-cell
unfolding flip
returns-else-j-cell c =
    let f = c.flipped.ensures in
    let g = c.flipped-else-j-cell.ensures in
    let h = c.flipped-else-j-cell-2.ensures in
    (rw (lt-leb _ _ c.if-j-cell.false) (λ i. (f.0 i, g.0 i, h.0 i)), record { h = f.1; k = g.1; l = h.1 }, omega (arith, g.0, neg_pos (c.args.cell.n2 / 2) c.args.j.k (omega arith) (omega arith)))
