use Rattle.std.proofs.Common.{◌*◌, ◌-◌, ap, get_or}
use Rattle.folded_batches.proofs.AlternatingTurning.{angle_zero, angle_rest}
use Rattle.folded_batches.proofs.alternating.turning.angle.Goals as goal

pub returns-then-s-eq0 : goal.returns-then-s-eq0
returns-then-s-eq0 c = angle_zero c.args.m c.args.a c.args.tan.now c.args.s c.if-s-eq0.true c.shift-one.ensures

pub returns-else-s-eq0 : goal.returns-else-s-eq0
returns-else-s-eq0 c = angle_rest c.args.m c.args.a c.args.tan.now c.args.s c.if-s-eq0.false c.shift-one.ensures c.halve-half.ensures (ap (λ k. get_or c.args.tan.now (k * c.args.s) 0) c.requires.step_value.0) (ap (λ k. get_or c.args.tan.now (k * (c.args.a - c.args.s)) 0) c.requires.step_value.0) c.sub.ensures c.mul.ensures c.add.ensures c.mul-else-s-eq0.ensures
