-- Both are reduced once.
use Rattle.butterflies.proofs.both_ways.Goals as goal

pub returns : goal.returns
returns c = λ n k a b hx hy. (c.total.ensures n k a b hx hy, c.rest.ensures n k a b hx hy)
