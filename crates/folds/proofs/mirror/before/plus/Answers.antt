-- Each number grows by less than the prime.
use Rattle.folds.proofs.mirror.before.Forms.{accumulated_plus}
use Rattle.folds.proofs.mirror.before.plus.Goals as goal

pub returns : goal.returns
returns c =
    λ m n z h. accumulated_plus m n _ _ z c.requires.re_bound.0 c.requires.re_bound.1 h
