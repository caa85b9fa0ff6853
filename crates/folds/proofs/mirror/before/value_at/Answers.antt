-- A place up to A of a symmetric line is stored, one above is the mirror image of a stored one.
use native.Mathlib.Omega.{arith}
use Rattle.folds.proofs.mirror.before.Forms.{symmetric_low, symmetric_high, line_symmetric, line_antisymmetric}
use Rattle.folds.proofs.mirror.before.value_at.Goals as goal

pub antisymmetric_at-requires-clause-a_nonzero : goal.antisymmetric_at-requires-clause-a_nonzero
antisymmetric_at-requires-clause-a_nonzero c = (omega arith, omega arith, omega arith)

pub returns-then-j-a : goal.returns-then-j-a
returns-then-j-a c =
    line_symmetric _ _ _ _ c.if-first-eq0.true (symmetric_low _ _ _ _ c.requires.below (omega arith) (omega arith) c.get.ensures)

pub returns-else-j-a : goal.returns-else-j-a
returns-else-j-a c =
    line_symmetric _ _ _ _ c.if-first-eq0.true (symmetric_high _ _ _ _ c.requires.below (omega arith) (omega arith) c.get-else-j-a.ensures)

pub returns-else-first-eq0 : goal.returns-else-first-eq0
returns-else-first-eq0 c = line_antisymmetric _ _ _ _ (omega arith) c.if-first-eq0.false c.antisymmetric_at.ensures
