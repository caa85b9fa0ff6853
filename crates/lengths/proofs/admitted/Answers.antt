-- `admitted` decides the definition: each return has settled its tests.
use native.Mathlib.Omega.{arith}
use borrow.Author.Tests.{lt-ltb}
use Rattle.lengths.specs.Lengths.{admitted}
use Rattle.lengths.proofs.admitted.Goals as goal

pub returns-then-length-eq0 : goal.returns-then-length-eq0
unfolding admitted
returns-then-length-eq0 c = simp c.if-length-eq0.true

pub returns : goal.returns
unfolding admitted
returns c = simp (lt-ltb 0 c.args.length (omega arith))
