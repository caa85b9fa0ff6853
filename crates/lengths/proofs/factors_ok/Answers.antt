-- A number that is no factor decides; without one the end of the list does.
use mathlib.Core.Path.{sym, ◌∙◌}
use Rattle.refusals.proofs.Tests.{by_false, by_true}
use Rattle.lengths.proofs.Factors.{factors_stop, factors_next, factors_past}
use Rattle.lengths.proofs.factors_ok.Goals as goal

pub returns-then-not-is_factor : goal.returns-then-not-is_factor
returns-then-not-is_factor c =
    factors_stop c.args.factors.now c.loop-factor.factor-index c.loop-factor-test.true (by_false _ _ c.is_factor.ensures c.if-not-is_factor.true) c.loop-factor.invariant

pub loop-factor-preserved : goal.loop-factor-preserved
loop-factor-preserved c =
    factors_next c.args.factors.now c.loop-factor.factor-index c.loop-factor-test.true (by_true _ _ c.is_factor.ensures c.if-not-is_factor.false) c.loop-factor.invariant

pub returns : goal.returns
returns c = sym (factors_past c.args.factors.now c.loop-factor.factor-index c.loop-factor-test.false) ∙ c.loop-factor.invariant
