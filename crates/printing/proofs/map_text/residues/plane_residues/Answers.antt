use Rattle.algebra.proofs.cells.Passing.{passing_start, passing_next, passing_stop, passing_done}
use Rattle.printing.proofs.map_text.residues.plane_residues.Goals as goal

pub loop-x-init : goal.loop-x-init
loop-x-init c = passing_start _ _

pub loop-x-preserved : goal.loop-x-preserved
loop-x-preserved c = passing_next c.loop-x.invariant c.loop-x-test.true c.row_residues.ensures c.if-not-row_residues.false

pub returns-then-not-row_residues : goal.returns-then-not-row_residues
returns-then-not-row_residues c = passing_stop c.loop-x.invariant c.loop-x-test.true c.row_residues.ensures c.if-not-row_residues.true

pub returns : goal.returns
returns c = passing_done c.loop-x.invariant c.loop-x-test.false
