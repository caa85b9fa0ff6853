-- (p + 1)/n is below p and stands for 1/n.
use Rattle.numbers.proofs.Parts.{part_below, part_number}
use Rattle.numbers.proofs.reciprocals.reciprocal.Goals as goal

pub returns : goal.returns
returns c = rw c.modulus-p.ensures.0 (part_number _ _ c.requires.1, part_below _ _ c.requires.1)
