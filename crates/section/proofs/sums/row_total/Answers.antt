use Rattle.std.proofs.Common.{◌∙◌, w64}
use mir.ValLaws.{to_z-of_z}
use Rattle.combined.specs.CombinedMap.{limit}
use Rattle.section.proofs.Totals.{summing_start, summing_next, summing_fits}
use Rattle.section.proofs.Planes.{within, row_range}
use Rattle.section.proofs.sums.row_total.Goals as goal

pub loop-y-init : goal.loop-y-init
loop-y-init c = summing_start _ _

pub overflow_add-sum : goal.overflow_add-sum
overflow_add-sum c =
    summing_fits c.loop-y.invariant limit (λ y l. within c.requires.0 _ y c.requires.1 l) (row_range c.requires.0) c.loop-y-test.true
    (to_z-of_z w64 _ (record { sfits = c.count_at-sum.type_inv }) ∙ c.count_at-sum.ensures)

pub loop-y-preserved : goal.loop-y-preserved
loop-y-preserved c =
    summing_next c.loop-y.invariant c.loop-y-test.true
    (to_z-of_z w64 _ (record { sfits = c.count_at-sum.type_inv }) ∙ c.count_at-sum.ensures)
    (to_z-of_z w64 _ (overflow_add-sum c))
