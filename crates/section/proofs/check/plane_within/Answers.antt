use Rattle.algebra.proofs.cells.Passing.{passing_start, passing_next, passing_stop, passing_done}
use Rattle.section.specs.Section.{plane_within}
use Rattle.section.proofs.check.plane_within.Goals as goal

pub loop-x-init : goal.loop-x-init
loop-x-init c = passing_start _ _

pub loop-x-preserved : goal.loop-x-preserved
loop-x-preserved c = passing_next c.loop-x.invariant c.loop-x-test.true c.row_within.ensures c.if-not-row_within.false

pub returns-then-not-row_within : goal.returns-then-not-row_within
unfolding plane_within
returns-then-not-row_within c = passing_stop c.loop-x.invariant c.loop-x-test.true c.row_within.ensures c.if-not-row_within.true

pub returns : goal.returns
unfolding plane_within
returns c = passing_done c.loop-x.invariant c.loop-x-test.false
