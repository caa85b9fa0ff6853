-- Sums go by parts.
use Rattle.numbers.proofs.unreduced.Unreduced.{accumulated_sum}
use Rattle.numbers.proofs.unreduced.sum.Goals as goal

pub returns : goal.returns
returns c = λ m n k a b hx hy. accumulated_sum m n k a b hx hy
