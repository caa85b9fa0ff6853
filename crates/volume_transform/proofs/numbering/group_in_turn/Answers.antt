-- A group of plain lines, or the line of the turn by itself.
use Rattle.volume_transform.proofs.PlainGroups.{plain_lines, first_line}
use Rattle.volume_transform.proofs.numbering.group_in_turn.Goals as goal

pub returns-then-group-eq0 : goal.returns-then-group-eq0
returns-then-group-eq0 c = plain_lines c.group_of_turn-group.ensures c.if-group-eq0.true

pub returns-else-group-eq0 : goal.returns-else-group-eq0
returns-else-group-eq0 c = first_line c.group_of_turn-group.ensures c.requires.3
