use Rattle.std.proofs.Common.{◌<◌, subst}
use Rattle.algebra.specs.cells.Cell.{one}
use Rattle.cell.proofs.Scans.{every_next, every_stop, every_end}
use Rattle.job.proofs.check.orbit.TestLaws.{orbit_start, image_free}
use Rattle.job.proofs.check.orbit.orbit_free.Goals as goal

pub operation_count-count-requires : goal.operation_count-count-requires
operation_count-count-requires c = c.requires.sizes.0.known

pub loop-i-init : goal.loop-i-init
loop-i-init c = orbit_start _ _ _ _

pub operation_at-o-requires : goal.operation_at-o-requires
operation_at-o-requires c = (c.requires.sizes.0.known, subst (λ n. c.loop-i.i < n) c.operation_count-count.ensures.0 c.loop-i-test.true)

pub loop-i-preserved : goal.loop-i-preserved
loop-i-preserved c =
    every_next _ c.operation_count-count.ensures.0 _ _ c.loop-i.invariant one c.loop-i-test.true c.operation_at-o.ensures (image_free _ _ _ _ _ c.image-to.ensures.0 c.factor_numbers_below.ensures) c.if-not-factor_numbers_below.false

pub returns-then-not-factor_numbers_below : goal.returns-then-not-factor_numbers_below
returns-then-not-factor_numbers_below c =
    every_stop _ c.operation_count-count.ensures.0 _ _ c.loop-i.invariant one c.loop-i-test.true c.operation_at-o.ensures (image_free _ _ _ _ _ c.image-to.ensures.0 c.factor_numbers_below.ensures) c.if-not-factor_numbers_below.true

pub returns : goal.returns
returns c = every_end _ c.operation_count-count.ensures.0 _ _ c.loop-i.invariant c.loop-i-test.false
