-- Words and numbers in a row; the text is short.
use borrow.Author.Rules.{rules}
use Rattle.printing.specs.Text.{refusal_text}
use Rattle.output.proofs.Writing.{wrote_append, ends_left, ends_right}
use Rattle.printing.proofs.map_text.Refusals.{refusal_ends}
use Rattle.printing.proofs.map_text.refusal.put_refusal.Statement.{statement}
use Rattle.printing.proofs.map_text.refusal.put_refusal.Tie as tie

put_bytes-word-requires : tie.Need-put_bytes-word-requires
put_bytes-word-requires c κs = search rules

put_field-refusal-requires : tie.Need-put_field-refusal-requires
unfolding refusal_text
put_field-refusal-requires c κs =
    let a = c.args in
    ends_left _ _ (ends_right _ c.put_bytes-word.ensures (refusal_ends a.number a.place))

put_bytes-at-requires : tie.Need-put_bytes-at-requires
unfolding refusal_text
put_bytes-at-requires c κs =
    let a = c.args in
    ends_left _ _ (ends_right _ c.put_field-refusal.ensures (ends_right _ c.put_bytes-word.ensures (refusal_ends a.number a.place)))

put_field-record-requires : tie.Need-put_field-record-requires
unfolding refusal_text
put_field-record-requires c κs =
    let a = c.args in
    ends_left _ _ (ends_right _ c.put_bytes-at.ensures (ends_right _ c.put_field-refusal.ensures (ends_right _ c.put_bytes-word.ensures (refusal_ends a.number a.place))))

put_byte-requires : tie.Need-put_byte-requires
unfolding refusal_text
put_byte-requires c κs =
    let a = c.args in
    ends_right _ c.put_field-record.ensures (ends_right _ c.put_bytes-at.ensures (ends_right _ c.put_field-refusal.ensures (ends_right _ c.put_bytes-word.ensures (refusal_ends a.number a.place))))

shape_of-out : tie.Need-shape_of-out
shape_of-out c = search rules

returns : tie.Need-returns
unfolding refusal_text
returns c =
    wrote_append c.put_bytes-word.ensures (wrote_append c.put_field-refusal.ensures (wrote_append c.put_bytes-at.ensures (wrote_append c.put_field-record.ensures c.put_byte.ensures)))

pub put_refusal_spec : {M : Type 1} → statement M
put_refusal_spec =
    tie.close
    (tie.spec put_bytes-word-requires put_field-refusal-requires put_bytes-at-requires put_field-record-requires put_byte-requires shape_of-out returns)
