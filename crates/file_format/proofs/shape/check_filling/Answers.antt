-- The tests in their order, each at its return.
use mathlib.Core.Path.{◌∙◌, ap}
use native.Mathlib.Omega.{arith}
use Rattle.file_format.specs.Format.{four_bytes}
use Rattle.file_format.proofs.shape.Shapes.{not_filled_lem, sound_filling}
use Rattle.file_format.proofs.shape.check_filling.Goals as goal

pub returns-then-file-at : goal.returns-then-file-at
returns-then-file-at c = not_filled_lem _ (λ q. omega (arith, c.first_record-at.ensures, c.requires.count))

pub returns-then-at-records : goal.returns-then-at-records
returns-then-at-records c =
    let records = c.four_bytes-records.ensures ∙ ap (four_bytes c.args.file.now) c.requires.count in
    not_filled_lem _ (λ q. c.if-at-records.true (omega (arith, records, c.first_record-at.ensures, c.requires.count)))

pub returns : goal.returns
returns c =
    let records = c.four_bytes-records.ensures ∙ ap (four_bytes c.args.file.now) c.requires.count in
    sound_filling _ (omega (arith, c.if-at-records.false, records, c.first_record-at.ensures, c.requires.count))
