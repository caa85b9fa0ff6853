-- The axes in their order, or in the other one.
use native.Mathlib.Omega.{arith}
use Rattle.volume_transform.proofs.plan.Numbered.{other_direction}
use Rattle.volume_transform.proofs.plan.AxisLines.{turn_same, turn_back_k, turn_back_h, turn_back_l}
use Rattle.volume_transform.proofs.numbering.line_of_turn.Goals as goal

pub returns-then-plan-eq0 : goal.returns-then-plan-eq0
returns-then-plan-eq0 c =
    turn_same c.args.plan _ c.requires.1 c.args.n c.requires.2 c.if-plan-eq0.true

pub returns-then-n-counts : goal.returns-then-n-counts
returns-then-n-counts c =
    turn_back_k c.args.plan _ c.requires.1 c.args.n c.requires.2 (other_direction c.args.plan.direction c.requires.0.directed c.if-plan-eq0.false) c.if-n-counts.true

pub returns-then-n-counts-2 : goal.returns-then-n-counts-2
returns-then-n-counts-2 c =
    turn_back_h c.args.plan _ c.requires.1 c.args.n c.requires.2 (other_direction c.args.plan.direction c.requires.0.directed c.if-plan-eq0.false) (omega (arith, c.if-n-counts.false)) c.if-n-counts-2.true

pub returns-else-n-counts-2 : goal.returns-else-n-counts-2
returns-else-n-counts-2 c =
    turn_back_l c.args.plan _ c.requires.1 c.args.n c.requires.2 (other_direction c.args.plan.direction c.requires.0.directed c.if-plan-eq0.false) (omega (arith, c.if-n-counts-2.false))
