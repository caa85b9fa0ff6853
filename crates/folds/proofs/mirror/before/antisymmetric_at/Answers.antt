-- Zero at 0 and A, stored between, the negated mirror image of a stored value above.
use native.Mathlib.Omega.{arith}
use Rattle.slices.proofs.Bounds.{small_of}
use Rattle.folds.proofs.mirror.before.Forms.{antisymmetric_zero, antisymmetric_middle, antisymmetric_low, antisymmetric_high}
use Rattle.folds.proofs.mirror.before.antisymmetric_at.Goals as goal

pub returns-then-j-eq0 : goal.returns-then-j-eq0
returns-then-j-eq0 c = antisymmetric_zero _ _ _ _ c.if-j-eq0.true

pub returns-then-j-a : goal.returns-then-j-a
returns-then-j-a c = antisymmetric_middle _ _ _ _ (omega arith) c.if-j-a.true

pub returns-then-j-a-2 : goal.returns-then-j-a-2
returns-then-j-a-2 c = antisymmetric_low _ _ _ _ c.requires.below (omega arith) (omega arith) c.get.ensures

pub negated-requires : goal.negated-requires
negated-requires c = (c.requires.modulus, small_of _ _ c.get-2.ensures c.requires.below)

pub returns : goal.returns
returns c = antisymmetric_high _ _ _ _ (omega arith) (omega arith) c.get-2.ensures c.negated.ensures
