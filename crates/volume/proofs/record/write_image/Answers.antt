-- An image that is not stored is left out.
use Rattle.numbers.proofs.Values.{small_by}
use Rattle.volume.proofs.record.RecordLaws.{image_written, image_skipped}
use Rattle.volume.proofs.record.write_image.Goals as goal

pub with_i-requires : goal.with_i-requires
with_i-requires c =
    (c.requires.modulus.0, small_by _ _ c.implied.ensures, c.requires.modulus.2.known)

pub returns-then-is_stored : goal.returns-then-is_stored
returns-then-is_stored c =
    image_written _ _ _ _ _ _ _ c.image-to.ensures.0 c.is_stored.ensures c.if-is_stored.true c.implied.ensures c.with_i.ensures c.write_factor.ensures

pub returns-else-is_stored : goal.returns-else-is_stored
returns-else-is_stored c =
    image_skipped _ _ _ _ _ _ _ c.image-to.ensures.0 c.is_stored.ensures c.if-is_stored.false
