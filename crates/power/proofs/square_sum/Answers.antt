use Rattle.std.proofs.Common.{◌+◌, ◌*◌, arith, ap, ◌∙◌}
use Rattle.slices.proofs.Segments.{get_or_segment}
use Rattle.power.proofs.PowerLaws.{squares_none, squares_next}
use Rattle.power.proofs.square_sum.Goals as goal

pub loop-x-init : goal.loop-x-init
loop-x-init c = (omega arith, λ m. squares_none m _ _)

pub loop-x-preserved : goal.loop-x-preserved
loop-x-preserved c = (
  omega (arith, c.whole-total.ensures),
  λ m.
      squares_next m _ _ _ _ _ (c.loop-x.invariant.1 m)
      (c.whole-total.ensures.0 ∙ ap (λ x. x * x) (get_or_segment c.args.start (c.args.start + c.args.count) c.args.volume.now (omega arith) c.requires.0 c.loop-x.x-index (omega arith))),
)
