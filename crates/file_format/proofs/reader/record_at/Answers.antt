-- The end where fourteen bytes are not there, else the record that stands.
use mathlib.Core.Path.{◌∙◌, sym}
use Rattle.file_format.proofs.Reading.{inside, outside, at_end, at_record}
use Rattle.file_format.proofs.reader.record_at.Goals as goal

pub returns-then-not-record_stands : goal.returns-then-not-record_stands
returns-then-not-record_stands c = at_end _ _ (outside _ _ (sym c.record_stands.ensures ∙ c.if-not-record_stands.true))

pub standing_record-requires : goal.standing_record-requires
standing_record-requires c = inside _ _ (sym c.record_stands.ensures ∙ c.if-not-record_stands.false)

pub returns : goal.returns
returns c = at_record _ _ _ c.standing_record.ensures (inside _ _ (sym c.record_stands.ensures ∙ c.if-not-record_stands.false))
