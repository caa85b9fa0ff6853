-- The three axes of a point go each by itself.
use Rattle.algebra.specs.cells.Cell.{point_image}
use Rattle.cell.proofs.operations.point_image.Goals as goal

pub returns : goal.returns
unfolding point_image
returns c =
    let f = c.moved.ensures in
    let g = c.moved-2.ensures in
    let h = c.moved-3.ensures in
    (λ i. (f.0 i, g.0 i, h.0 i), record { x = f.1; y = g.1; z = h.1 })
