use Rattle.std.proofs.Common.{arith, ◌*◌, ◌∙◌, ap}
use Rattle.folded_batches.specs.AlternatingLanes.{twice_pair}
use Rattle.folded_batches.proofs.AlternatingBack.{twice_at}
use Rattle.folded_batches.proofs.alternating.back.take_first.Goals as goal

pub returns : goal.returns
unfolding twice_pair
returns c = record {
  long = c.put_place.ensures.long;
  kept_twice = twice_at _ (ap (λ r. 2 * r) c.modulus.ensures.0) (record { long = c.fill_lanes.ensures.long; each = λ v lv. let h = c.fill_lanes.ensures.each v lv in grind arith });
  new = λ v lv. c.put_place.ensures.new v lv ∙ c.first_block.ensures.each v lv;
  kept = c.put_place.ensures.kept;
}
