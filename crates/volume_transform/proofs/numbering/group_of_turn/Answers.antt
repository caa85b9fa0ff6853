-- The line of the turn, and the lines beside it.
use Rattle.volume_transform.proofs.plan.Neighbours.{group_by}
use Rattle.volume_transform.proofs.numbering.group_of_turn.Goals as goal

pub returns : goal.returns
returns c =
    let lanes = c.lanes_beside.ensures in
    group_by c.args.plan c.requires.0 c.args.n c.requires.2 c.line_at-line.result c.lanes_beside.result lanes.0 c.line_of_turn-j.result c.line_of_turn-j.ensures.0
    c.line_at-line.ensures.line_at lanes.1 lanes.2 c.line_at-line.ensures.neighbours c.line_at-line.ensures.rows_after
