-- 2^32, or 2^32/n.
use Rattle.numbers.specs.Value.{ring}
use Rattle.numbers.specs.Bounds.{res}
use Rattle.numbers.proofs.Residues.{below_by}
use Rattle.batches.proofs.LastReduction.{shift_holds}
use Rattle.volume_transform.proofs.plan.Numbered.{other_direction}
use Rattle.volume_transform.proofs.GroupTurns.{shift_over, scale_as}
use Rattle.volume_transform.proofs.groups.last_factor.Goals as goal

pub mul-requires : goal.mul-requires
mul-requires c =
    (c.requires.0, below_by c.args.m (res c.args.m 4294967296) c.shift-shift.ensures, c.reciprocal.ensures.1)

pub returns-then-direction-eq0 : goal.returns-then-direction-eq0
returns-then-direction-eq0 c =
    (below_by c.args.m (res c.args.m 4294967296) c.shift-shift.ensures, scale_as c.args.n c.if-direction-eq0.true (shift_holds c.args.m c.shift-shift.ensures))

pub returns-else-direction-eq0 : goal.returns-else-direction-eq0
returns-else-direction-eq0 c = (
  below_by c.args.m ((ring c.args.m).mul (res c.args.m c.shift-shift.result) (res c.args.m c.reciprocal.result)) c.mul.ensures,
  scale_as c.args.n (other_direction c.args.direction c.requires.1 c.if-direction-eq0.false) (shift_over c.args.n c.shift-shift.ensures c.reciprocal.ensures.0 c.mul.ensures),
)
