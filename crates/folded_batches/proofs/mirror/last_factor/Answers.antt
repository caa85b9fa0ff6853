-- 2^32/2, or 2^32/(2 N).
use Rattle.std.proofs.Common.{◌≡◌, ◌*◌, arith}
use Rattle.numbers.specs.Value.{ring, half}
use Rattle.numbers.specs.Bounds.{res}
use Rattle.numbers.proofs.Residues.{below_by}
use Rattle.folded_batches.proofs.MirrorGroups.{half_holds, share_holds, mirror_scale_as}
use Rattle.folded_batches.proofs.mirror.last_factor.Goals as goal

pub halve-half-requires : goal.halve-half-requires
halve-half-requires c = (c.requires.0, below_by c.args.m (res c.args.m 4294967296) c.shift.ensures)

pub returns-then-direction-eq0 : goal.returns-then-direction-eq0
returns-then-direction-eq0 c =
    let m = c.args.m in
    (below_by m ((ring m).mul (half m) (res m c.shift.result)) c.halve-half.ensures, mirror_scale_as m c.args.a c.if-direction-eq0.true (half_holds m c.shift.ensures c.halve-half.ensures))

pub returns-else-direction-eq0 : goal.returns-else-direction-eq0
returns-else-direction-eq0 c =
    let m = c.args.m in
    let other : c.args.direction ≡ 1 = omega arith in (
      below_by m ((ring m).mul (res m c.halve-half.result) (res m c.share.result)) c.mul.ensures,
      mirror_scale_as m c.args.a other (share_holds m (2 * c.args.a) (half_holds m c.shift.ensures c.halve-half.ensures) c.share.ensures.0 c.mul.ensures),
    )
