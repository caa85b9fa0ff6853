use Rattle.std.proofs.Common.{◌<◌, subst}
use Rattle.algebra.specs.cells.Cell.{one}
use Rattle.cell.proofs.Scans.{every_next, every_stop, every_end}
use Rattle.job.proofs.check.orbit.TestLaws.{agrees_start}
use Rattle.job.proofs.check.orbit.agrees.Goals as goal

pub operation_count-count-requires : goal.operation_count-count-requires
operation_count-count-requires c = c.requires.2.known

pub loop-i-init : goal.loop-i-init
loop-i-init c = agrees_start _ _ _ _ _

pub operation_at-requires : goal.operation_at-requires
operation_at-requires c = (c.requires.2.known, subst (λ n. c.loop-i.i < n) c.operation_count-count.ensures.0 c.loop-i-test.true)

pub loop-i-preserved : goal.loop-i-preserved
loop-i-preserved c =
    every_next _ c.operation_count-count.ensures.0 _ _ c.loop-i.invariant one c.loop-i-test.true c.operation_at.ensures c.agrees_under.ensures c.if-not-agrees_under.false

pub returns-then-not-agrees_under : goal.returns-then-not-agrees_under
returns-then-not-agrees_under c =
    every_stop _ c.operation_count-count.ensures.0 _ _ c.loop-i.invariant one c.loop-i-test.true c.operation_at.ensures c.agrees_under.ensures c.if-not-agrees_under.true

pub returns : goal.returns
returns c = every_end _ c.operation_count-count.ensures.0 _ _ c.loop-i.invariant c.loop-i-test.false
