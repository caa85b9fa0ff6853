use Rattle.std.proofs.Common.{arith}
use Rattle.cell.proofs.StoredFactors.{layers_most}
use Rattle.volume.proofs.consistent.map_test.plane_agrees.Goals as goal

pub meets_stored-tried-requires : goal.meets_stored-tried-requires
meets_stored-tried-requires c =
    let s = c.args.v.now.whole.sizes in
    (s, omega (arith, c.requires, layers_most s.third _ s.known))
