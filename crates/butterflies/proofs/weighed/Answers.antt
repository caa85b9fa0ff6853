-- Two products by residues.
use native.Mathlib.Omega.{arith}
use Rattle.numbers.proofs.unreduced.Unreduced.{counted, rooms}
use Rattle.butterflies.proofs.weighed.Goals as goal

pub sum-requires : goal.sum-requires
sum-requires c =
    rooms (omega arith) (omega arith) (c.scaled.ensures 1 4 _ (counted 1 4 (omega arith) c.requires.2)) (c.scaled-2.ensures 1 4 _ (counted 1 4 (omega arith) c.requires.3))

pub returns : goal.returns
returns c = λ m n k x y ht hs. c.sum.ensures m _ _ _ _ (c.scaled.ensures m n x ht) (c.scaled-2.ensures m k y hs)
