use Rattle.std.proofs.Common.{◌∙◌, arith, length, w64}
use mir.ValLaws.{to_z-of_z}
use Rattle.slices.proofs.Filling.{filled_all, storing_start}
use Rattle.slices.proofs.Stores.{storing_value}
use Rattle.combined.proofs.Tables.{stores_whole}
use Rattle.combined.proofs.chinese.combine_all.Goals as goal

pub loop-n-init : goal.loop-n-init
loop-n-init c = storing_start

pub loop-n-preserved : goal.loop-n-preserved
loop-n-preserved c = storing_value c.loop-n.invariant (omega arith) (to_z-of_z w64 _ (record { sfits = c.combine.type_inv }) ∙ c.combine.ensures)

pub returns : goal.returns
returns c = filled_all c.loop-n.invariant (omega arith) ∙ stores_whole (length c.args.first.now) _ c.args.output.now c.requires.second_len.1
