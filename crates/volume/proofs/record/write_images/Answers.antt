use Rattle.std.proofs.Common.{refl}
use Rattle.volume.proofs.record.RecordLaws.{images_next, images_end}
use Rattle.volume.proofs.record.write_images.Goals as goal

pub loop-number-init : goal.loop-number-init
loop-number-init c = refl

pub loop-number-preserved : goal.loop-number-preserved
loop-number-preserved c = images_next _ _ _ _ _ _ c.operation_count-number-end.ensures.0 _ _ c.loop-number.invariant c.loop-number-test.true c.operation_at-o.ensures c.write_image.ensures

pub returns : goal.returns
returns c = images_end _ _ _ _ _ _ c.operation_count-number-end.ensures.0 _ _ c.loop-number.invariant c.loop-number-test.false
