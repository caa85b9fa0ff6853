-- The number of a line tells its axis.
use native.Mathlib.Omega.{arith}
use Rattle.volume_transform.proofs.plan.AxisLines.{at_l, at_h, at_k}
use Rattle.volume_transform.proofs.plan.Neighbours.{neighbours_at_l, neighbours_at_h, rows_after_at}
use Rattle.volume_transform.proofs.numbering.line_at.Goals as goal

pub returns-then-j-counts : goal.returns-then-j-counts
returns-then-j-counts c = record {
  line_at = at_l c.args.plan _ c.requires.1 c.args.j c.if-j-counts.true c.along_l.ensures.gathered;
  neighbours = λ low. neighbours_at_l c.args.plan c.requires.0 _ c.requires.1 c.args.j c.if-j-counts.true c.along_l.ensures.neighbours;
  rows_after = λ high. absurd (omega (arith, high, c.requires.1.l, c.if-j-counts.true));
}

pub returns-then-j-counts-2 : goal.returns-then-j-counts-2
returns-then-j-counts-2 c = record {
  line_at = at_h c.args.plan _ c.requires.1 c.args.j (omega (arith, c.if-j-counts.false)) c.if-j-counts-2.true c.along_h.ensures.gathered;
  neighbours = λ low. neighbours_at_h c.args.plan c.requires.0 _ c.requires.1 c.args.j (omega (arith, c.if-j-counts.false)) c.if-j-counts-2.true c.along_h.ensures.neighbours;
  rows_after = λ high. absurd (omega (arith, high, c.requires.1.l, c.requires.1.h, c.if-j-counts-2.true));
}

pub returns-else-j-counts-2 : goal.returns-else-j-counts-2
returns-else-j-counts-2 c = record {
  line_at = at_k c.args.plan _ c.requires.1 c.args.j (omega (arith, c.if-j-counts-2.false)) c.row_at.ensures.row;
  neighbours = λ low. absurd (omega (arith, low, c.requires.1.l, c.requires.1.h, c.if-j-counts-2.false));
  rows_after = λ high. rows_after_at c.args.plan c.requires.0 _ c.requires.1 c.args.j (omega (arith, c.if-j-counts-2.false)) c.row_at.ensures.rows_after;
}
