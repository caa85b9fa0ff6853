-- The axes one by one, then the volume.
use mathlib.Core.Path.{◌∙◌, sym}
use Rattle.lengths.specs.Lengths.{octal_digits}
use Rattle.header.specs.Cells.{cell_header}
use Rattle.header.proofs.Headers.{three, short_lengths, axes_sizes, axes_valid, axes_refused}
use Rattle.header.proofs.packed.valid_header.Goals as goal

pub volume_length-requires : goal.volume_length-requires
volume_length-requires c =
    let a = c.args in
    let h = cell_header a.cell (octal_digits a.f1) (octal_digits a.f2) (octal_digits a.f3) in
    short_lengths (axes_sizes h c.requires (sym (three c.valid_axis.ensures c.valid_axis-2.ensures c.valid_axis-3.ensures) ∙ c.if-valid_axis.true))

pub returns-then-valid_axis : goal.returns-then-valid_axis
returns-then-valid_axis c =
    let a = c.args in
    let h = cell_header a.cell (octal_digits a.f1) (octal_digits a.f2) (octal_digits a.f3) in
    axes_valid h (sym (three c.valid_axis.ensures c.valid_axis-2.ensures c.valid_axis-3.ensures) ∙ c.if-valid_axis.true) c.volume_length.ensures

pub returns-else-valid_axis : goal.returns-else-valid_axis
returns-else-valid_axis c =
    let a = c.args in
    let h = cell_header a.cell (octal_digits a.f1) (octal_digits a.f2) (octal_digits a.f3) in
    axes_refused h (sym (three c.valid_axis.ensures c.valid_axis-2.ensures c.valid_axis-3.ensures) ∙ c.if-valid_axis.false)
