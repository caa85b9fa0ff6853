use Rattle.std.proofs.Common.{◌∙◌, arith}
use Rattle.algebra.proofs.cells.Passing.{tested_stop, tested_all}
use Rattle.volume.proofs.consistent.TestLaws.{map_tested}
use Rattle.volume.proofs.consistent.map_test.consistent_map.Goals as goal

pub returns-then-not-plane_agrees : goal.returns-then-not-plane_agrees
returns-then-not-plane_agrees c = tested_stop _ _ c.loop-z.invariant _ (omega (arith, c.layer_count-planes.ensures)) c.plane_agrees.ensures c.if-not-plane_agrees.true ∙ map_tested _ _ _

pub returns : goal.returns
returns c = tested_all _ _ _ c.loop-z.invariant (omega (arith, c.layer_count-planes.ensures)) ∙ map_tested _ _ _
