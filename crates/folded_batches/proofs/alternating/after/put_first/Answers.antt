use Rattle.std.proofs.Common.{arith, ◌∙◌}
use Rattle.folded_batches.specs.AlternatingLanes.{first_pair}
use Rattle.folded_batches.proofs.alternating.after.put_first.Goals as goal

pub returns : goal.returns
unfolding first_pair
returns c = record {
  long = c.put_place.ensures.long;
  new = λ v lv. c.put_place.ensures.new v lv ∙ (let h = c.fill_lanes.ensures.each v lv in grind arith);
  kept = c.put_place.ensures.kept;
}
