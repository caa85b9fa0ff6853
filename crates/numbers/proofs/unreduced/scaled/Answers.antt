-- Both products fit 64 bits.
use Rattle.numbers.proofs.unreduced.Unreduced.{accumulated_scaled}
use Rattle.numbers.proofs.unreduced.scaled.Goals as goal

pub returns : goal.returns
returns c = λ m n a h. accumulated_scaled m n a c.requires.0 h
