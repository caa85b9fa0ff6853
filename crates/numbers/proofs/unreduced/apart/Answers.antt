-- y is taken from a number that stands for 0.
use Rattle.numbers.proofs.unreduced.Unreduced.{accumulated_apart}
use Rattle.numbers.proofs.unreduced.apart.Goals as goal

pub returns : goal.returns
returns c = λ m n k a b is hx hy. accumulated_apart m n k a b is c.requires.1 hx hy
