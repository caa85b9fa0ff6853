-- The angles that are not given are 90 degrees.
use mathlib.Core.Path.{sym, ◌∙◌, ap}
use mir.Syntax.{w64}
use mir.ValLaws.{to_z-of_z}
use Rattle.cell.specs.Operations.{cell_lengths}
use Rattle.mrc.specs.Header.{headed, header_of}
use Rattle.mrc.proofs.EdgesAngles.{right_angle_is}
use Rattle.mrc.proofs.file_header.header_of.Goals as goal

pub returns-in-Monoclinic : goal.returns-in-Monoclinic
returns-in-Monoclinic c =
    let a = c.args in
    let f = c.in-Monoclinic in
    let right = sym right_angle_is in
    c.headed-in-Monoclinic.ensures
    ∙ (λ i. headed (cell_lengths a.cell) f.a f.b f.c (right i) (right i) f.gamma (to_z-of_z w64 a.least c.ranges.least i) (to_z-of_z w64 a.greatest c.ranges.greatest i))
    ∙ ap (λ q. header_of (cell_lengths a.cell) q a.least a.greatest) (sym c.in-Monoclinic.is)
