-- Fourteen bytes that are in the file end at a place that is a number of the machine.
use mathlib.Core.Path.{◌∙◌, sym}
use native.Mathlib.Omega.{arith}
use Rattle.file_format.proofs.Reading.{inside, outside, after_record, after_end}
use Rattle.file_format.proofs.reader.place_after.Goals as goal

pub overflow_add-result : goal.overflow_add-result
overflow_add-result c = omega (arith, inside c.args.file.now c.args.at (sym c.record_stands.ensures ∙ c.if-record_stands.true))

pub returns-then-record_stands : goal.returns-then-record_stands
returns-then-record_stands c = after_record _ _ (inside _ _ (sym c.record_stands.ensures ∙ c.if-record_stands.true))

pub returns-else-record_stands : goal.returns-else-record_stands
returns-else-record_stands c = after_end _ _ (outside _ _ (sym c.record_stands.ensures ∙ c.if-record_stands.false))
