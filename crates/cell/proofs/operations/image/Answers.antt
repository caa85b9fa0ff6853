-- The three axes go each by its own change of sign.
use Rattle.algebra.specs.cells.Cell.{image_of}
use Rattle.cell.proofs.operations.image.Goals as goal

pub returns : goal.returns
unfolding image_of
returns c =
    let f = c.flipped.ensures in
    let g = c.flipped-2.ensures in
    let h = c.flipped-3.ensures in
    (λ i. (f.0 i, g.0 i, h.0 i), record { h = f.1; k = g.1; l = h.1 })
