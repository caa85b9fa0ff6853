use Rattle.std.proofs.Common.{sym, ◌∙◌}
use Rattle.slices.proofs.Bounds.{all_below_next, all_below_end}
use Rattle.slices.proofs.buffers.all_below.Goals as goal

pub loop-x-preserved : goal.loop-x-preserved
loop-x-preserved c = c.loop-x.invariant ∙ all_below_next _ _ _ _ c.loop-x-test.true

pub returns : goal.returns
returns c = sym (c.loop-x.invariant ∙ all_below_end _ _ _ _ c.loop-x-test.false)
