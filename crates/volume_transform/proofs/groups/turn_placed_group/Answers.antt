-- The kind of the lines tells whether they are rows, and whether they are folded.
use mathlib.Core.Path.{◌∙◌}
use Rattle.volume_transform.proofs.GroupTurns.{rows_are, lines_are, rows_of, lines_of_lem, plain_lines_of, beyond_two}
use Rattle.volume_transform.proofs.groups.turn_placed_group.Goals as goal

pub turn_rows-requires-clause-row_lines : goal.turn_rows-requires-clause-row_lines
turn_rows-requires-clause-row_lines c =
    let h = c.requires.placed_group in
    (rows_of c.args.line h.0 c.if-line-eq1.true, h.1, h.2)

pub turn_group-requires-clause-plain_lines : goal.turn_group-requires-clause-plain_lines
turn_group-requires-clause-plain_lines c =
    let h = c.requires.placed_group in
    (plain_lines_of c.args.line (lines_of_lem c.args.line h.0 c.if-line-eq1.false) c.if-line-eq0.true, h.1, h.2)

pub turn_folded-requires-clause-spaced_lines : goal.turn_folded-requires-clause-spaced_lines
turn_folded-requires-clause-spaced_lines c =
    let h = c.requires.placed_group in
    let s = lines_of_lem c.args.line h.0 c.if-line-eq1.false in
    (s, beyond_two c.args.line.kind c.if-line-eq0.false c.if-line-eq1.false s.room.known, h.1, h.2)

pub returns-then-line-eq1 : goal.returns-then-line-eq1
returns-then-line-eq1 c =
    (c.turn_rows.ensures.0 ∙ rows_are c.args.line c.args.lanes c.args.volume.now c.if-line-eq1.true, c.turn_rows.ensures.1)

pub returns-then-line-eq0 : goal.returns-then-line-eq0
returns-then-line-eq0 c =
    (c.turn_group.ensures.0 ∙ lines_are c.args.line c.args.lanes c.args.volume.now c.if-line-eq1.false, c.turn_group.ensures.1)

pub returns-else-line-eq0 : goal.returns-else-line-eq0
returns-else-line-eq0 c =
    (c.turn_folded.ensures.0 ∙ lines_are c.args.line c.args.lanes c.args.volume.now c.if-line-eq1.false, c.turn_folded.ensures.1)
