use Rattle.std.proofs.Common.{◌∙◌, arith}
use Rattle.algebra.proofs.cells.Passing.{tested_stop, tested_all, by_layers}
use Rattle.volume.proofs.consistent.factor_test.factors_agree.Goals as goal

pub returns-then-not-layer_agrees : goal.returns-then-not-layer_agrees
returns-then-not-layer_agrees c = tested_stop _ _ c.loop-l.invariant _ (omega (arith, c.stored_count-l-end.ensures)) c.layer_agrees.ensures c.if-not-layer_agrees.true ∙ by_layers _ _ _ _

pub returns : goal.returns
returns c = tested_all _ _ _ c.loop-l.invariant (omega (arith, c.stored_count-l-end.ensures)) ∙ by_layers _ _ _ _
