use Rattle.std.proofs.Common.{arith}
use Rattle.folded_batches.proofs.AlternatingBack.{packed_by, end_inside}
use Rattle.folded_batches.proofs.alternating.back.pack.Goals as goal

pub fill_lanes-requires : goal.fill_lanes-requires
fill_lanes-requires c = λ v lv. grind (arith, end_inside)

pub returns : goal.returns
returns c = packed_by c.end_place-end.ensures (record { long = c.fill_lanes.ensures.long; each = λ v lv. let h = c.fill_lanes.ensures.each v lv in grind arith }) c.put_place.ensures
