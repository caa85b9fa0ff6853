-- The operation that leads to the stored planes is the second of the group.
use mathlib.Core.Path.{◌∙◌, subst}
use Prim.Native.Nat.{◌/◌, ◌<◌, ◌≤◌}
use native.Mathlib.Omega.{arith}
use Rattle.cell.proofs.OperationLaws.{order_more}
use Rattle.cell.proofs.PlaceLaws.{not_plain, stored_plane, other_point}
use Rattle.cell.proofs.places.stored_point.Goals as goal

pub group_operation-other-requires : goal.group_operation-other-requires
group_operation-other-requires c =
    (c.requires.0.known, omega (arith, order_more _ c.requires.0.known (not_plain _ (c.args.cell.n3 / 2) c.args.p.z (subst (λ n. n ≤ c.args.p.z) c.layer_count.ensures c.if-p-layer_count.false) (omega (arith, c.requires.0.third.even, c.requires.1.z)))))

pub returns-then-p-layer_count-clause-result_value : goal.returns-then-p-layer_count-clause-result_value
returns-then-p-layer_count-clause-result_value c = stored_plane _ _ _ (subst (λ n. c.args.p.z < n) c.layer_count.ensures c.if-p-layer_count.true)

pub returns-else-p-layer_count-clause-result_value : goal.returns-else-p-layer_count-clause-result_value
returns-else-p-layer_count-clause-result_value c =
    let l = subst (λ n. n ≤ c.args.p.z) c.layer_count.ensures c.if-p-layer_count.false in
    c.point_image.ensures.0 ∙ other_point _ c.requires.0.known (not_plain _ (c.args.cell.n3 / 2) c.args.p.z l (omega (arith, c.requires.0.third.even, c.requires.1.z))) _ _ c.group_operation-other.ensures l
