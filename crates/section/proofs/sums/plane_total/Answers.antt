use Rattle.std.proofs.Common.{◌∙◌, w64}
use mir.ValLaws.{to_z-of_z}
use Rattle.section.proofs.Totals.{summing_start, summing_next, summing_fits}
use Rattle.section.proofs.Planes.{row_small, plane_range}
use Rattle.section.proofs.sums.plane_total.Goals as goal

pub loop-x-init : goal.loop-x-init
loop-x-init c = summing_start _ _

pub overflow_add-sum : goal.overflow_add-sum
overflow_add-sum c =
    summing_fits c.loop-x.invariant 37622838528000 (row_small c.requires) (plane_range c.requires) c.loop-x-test.true
    (to_z-of_z w64 _ (record { sfits = c.row_total-sum.type_inv }) ∙ c.row_total-sum.ensures)

pub loop-x-preserved : goal.loop-x-preserved
loop-x-preserved c =
    summing_next c.loop-x.invariant c.loop-x-test.true
    (to_z-of_z w64 _ (record { sfits = c.row_total-sum.type_inv }) ∙ c.row_total-sum.ensures)
    (to_z-of_z w64 _ (overflow_add-sum c))
