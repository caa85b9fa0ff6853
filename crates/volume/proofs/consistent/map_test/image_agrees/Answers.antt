-- The image's number is read only where its plane is stored.
use native.Mathlib.Omega.{arith}
use Rattle.cell.proofs.StoredFactors.{pair_inside}
use Rattle.volume.proofs.consistent.map_test.image_agrees.Goals as goal

pub stored_number-requires : goal.stored_number-requires
stored_number-requires c =
    let w = c.point_image-q.ensures.1 in
    pair_inside c.args.v.now.whole _ _ _ (omega (arith, c.layer_count.ensures)) w.x (omega (arith, w.y))

pub stored_number-requires-then-q-layer_count : goal.stored_number-requires-then-q-layer_count
stored_number-requires-then-q-layer_count c =
    let p = c.requires in
    pair_inside c.args.v.now.whole _ _ _ p.1 p.0.x (omega (arith, p.0.y))
