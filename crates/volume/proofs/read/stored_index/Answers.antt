-- The image on the other half of the line is stored, and read from the same numbers.
use mathlib.Core.Path.{◌∙◌, ap}
use Prim.Native.Nat.{◌/◌, ◌≤◌}
use native.Mathlib.Omega.{arith}
use Rattle.algebra.specs.cells.Cell.{span}
use Rattle.cell.specs.Operations.{cell_group, cell_halves, triple_of}
use Rattle.cell.proofs.PlaceLaws.{inside_of}
use Rattle.volume.proofs.read.ReadingLaws.{line_image, beyond_image}
use Rattle.volume.proofs.read.stored_index.Goals as goal

pub returns-else-j-stored_count : goal.returns-else-j-stored_count
returns-else-j-stored_count c =
    let a = c.args in
    let p = c.requires in
    let e = c.stored_count.ensures in
    let inside = inside_of p.0 p.1 in
    let beyond : span (cell_group a.cell) (a.cell.n3 / 2) ≤ a.j.l = omega (arith, e, c.if-j-stored_count.false) in
    let i = ap (λ l. (a.j.h, a.j.k, l)) c.flipped.ensures.0 ∙ line_image (cell_halves a.cell) (triple_of a.j) inside a.cell.group p.0.known beyond in
    let b = beyond_image (cell_halves a.cell) (triple_of a.j) _ inside a.cell.group p.0.known i beyond in
    record { stored = record { h = p.1.h; k = p.2; l = b.2 }; result_value = b.0; result_value_2 = λ l. absurd (omega (arith, beyond, l)); result_value_3 = λ l. i }
