-- A word, four numbers and a line feed in a row.
use borrow.Author.Rules.{rules}
use Rattle.printing.specs.Text.{head_line}
use Rattle.output.proofs.Writing.{wrote_append, ends_left, ends_right}
use Rattle.printing.proofs.map_text.text.put_head.Statement.{statement}
use Rattle.printing.proofs.map_text.text.put_head.Tie as tie

put_bytes-word-requires : tie.Need-put_bytes-word-requires
unfolding head_line
put_bytes-word-requires c κs = ends_left _ _ c.requires

put_field-group-requires : tie.Need-put_field-group-requires
unfolding head_line
put_field-group-requires c κs =
    ends_left _ _ (ends_right _ c.put_bytes-word.ensures c.requires)

put_field-first-requires : tie.Need-put_field-first-requires
unfolding head_line
put_field-first-requires c κs =
    ends_left _ _ (ends_right _ c.put_field-group.ensures (ends_right _ c.put_bytes-word.ensures c.requires))

put_field-second-requires : tie.Need-put_field-second-requires
unfolding head_line
put_field-second-requires c κs =
    ends_left _ _ (ends_right _ c.put_field-first.ensures (ends_right _ c.put_field-group.ensures (ends_right _ c.put_bytes-word.ensures c.requires)))

put_field-third-requires : tie.Need-put_field-third-requires
unfolding head_line
put_field-third-requires c κs =
    ends_left _ _ (ends_right _ c.put_field-second.ensures (ends_right _ c.put_field-first.ensures (ends_right _ c.put_field-group.ensures (ends_right _ c.put_bytes-word.ensures c.requires))))

put_byte-requires : tie.Need-put_byte-requires
unfolding head_line
put_byte-requires c κs =
    ends_right _ c.put_field-third.ensures (ends_right _ c.put_field-second.ensures (ends_right _ c.put_field-first.ensures (ends_right _ c.put_field-group.ensures (ends_right _ c.put_bytes-word.ensures c.requires))))

shape_of-out : tie.Need-shape_of-out
shape_of-out c = search rules

returns : tie.Need-returns
unfolding head_line
returns c =
    wrote_append c.put_bytes-word.ensures (wrote_append c.put_field-group.ensures (wrote_append c.put_field-first.ensures (wrote_append c.put_field-second.ensures (wrote_append c.put_field-third.ensures c.put_byte.ensures))))

pub put_head_spec : {M : Type 1} → statement M
put_head_spec =
    tie.close
    (tie.spec put_bytes-word-requires put_field-group-requires put_field-first-requires put_field-second-requires put_field-third-requires put_byte-requires shape_of-out returns)
