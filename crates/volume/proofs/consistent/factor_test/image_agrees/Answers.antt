-- The image is read and compared only where it is stored.
use Rattle.numbers.proofs.Values.{small_by}
use Rattle.cell.specs.Operations.{sym_of}
use Rattle.cell.proofs.StoredFactors.{all_below_at_lem}
use Rattle.volume.proofs.consistent.TestLaws.{stored_within, stored_by, image_tested}
use Rattle.volume.proofs.consistent.factor_test.image_agrees.Goals as goal

pub image-i-requires : goal.image-i-requires
image-i-requires c =
    let s = c.args.r.now.whole.sizes in
    (s, stored_within s c.requires)

pub stored_value-x-requires-clause-j_value : goal.stored_value-x-requires-clause-j_value
stored_value-x-requires-clause-j_value c = all_below_at_lem c.args.r.now.below _

pub stored_value-y-requires : goal.stored_value-y-requires
stored_value-y-requires c =
    let r = c.args.r.now in
    record {
      modulus = (r.modulus, r.whole, stored_by r.whole.sizes c.image-i.ensures.1 c.is_stored.ensures c.if-is_stored.true);
      j_value = all_below_at_lem r.below _;
    }

pub implied-requires : goal.implied-requires
implied-requires c = (c.args.r.now.modulus, small_by _ _ c.stored_value-x.ensures)

pub returns-then-is_stored : goal.returns-then-is_stored
returns-then-is_stored c =
    image_tested _ _ _ _ _ (sym_of c.args.o) c.image-i.ensures.0 c.is_stored.ensures c.if-is_stored.true
    c.stored_value-x.ensures c.stored_value-y.ensures c.implied.ensures c.same.ensures
