-- The rest of a row of lines, or of all rows along k.
use native.Mathlib.Omega.{arith}
use Rattle.volume_transform.proofs.plan.AxisLines.{counted_lines}
use Rattle.volume_transform.proofs.plan.JobTurns.{width_low}
use Rattle.volume_transform.proofs.plan.Neighbours.{row_left, left_in_row, left_of_rows}
use Rattle.volume_transform.proofs.numbering.lines_left.Goals as goal

pub overflow_sub-result : goal.overflow_sub-result
overflow_sub-result c = omega (arith, counted_lines c.requires.1, c.requires.2)

pub returns-then-lines-j : goal.returns-then-lines-j
returns-then-lines-j c =
    (omega (arith, counted_lines c.requires.1, c.requires.2), left_of_rows c.args.plan c.requires.0 c.requires.1 c.args.j _ c.if-lines-j.true (omega (arith, counted_lines c.requires.1, c.requires.2)))

pub overflow_add-width : goal.overflow_add-width
overflow_add-width c = omega (arith, width_low c.requires.0.sizes.sizes)

pub overflow_cast-width : goal.overflow_cast-width
overflow_cast-width c = omega (arith, width_low c.requires.0.sizes.sizes)

pub overflow_sub-result-2 : goal.overflow_sub-result-2
overflow_sub-result-2 c = omega (arith, (row_left c.args.plan c.requires.0 c.args.j).1)

pub returns : goal.returns
returns c =
    ((row_left c.args.plan c.requires.0 c.args.j).0, left_in_row c.args.plan c.requires.0 c.requires.1 c.args.j _ (omega (arith, c.if-lines-j.false)) (omega arith))
