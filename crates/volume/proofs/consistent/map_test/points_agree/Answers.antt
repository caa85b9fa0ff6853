-- All points of a plane without stored images agree.
use Rattle.std.proofs.Common.{sym, arith}
use Rattle.cell.proofs.StoredFactors.{layers_most}
use Rattle.algebra.proofs.cells.Passing.{below_all, tested_stop}
use Rattle.volume.proofs.consistent.map_test.points_agree.Goals as goal

pub returns-then-not-tried : goal.returns-then-not-tried
returns-then-not-tried c = sym (below_all _ _ (λ y. c.requires.2 c.if-not-tried.true c.args.v.now.volume.now c.args.x y))

pub point_agrees-requires : goal.point_agrees-requires
point_agrees-requires c =
    let p = c.requires in
    let s = c.args.v.now.whole.sizes in
    (record { x = p.1; y = omega arith; z = omega (arith, p.0, layers_most s.third _ s.known) }, p.0)

pub returns-then-not-point_agrees : goal.returns-then-not-point_agrees
returns-then-not-point_agrees c = tested_stop _ _ c.loop-y.invariant _ (omega arith) c.point_agrees.ensures c.if-not-point_agrees.true
