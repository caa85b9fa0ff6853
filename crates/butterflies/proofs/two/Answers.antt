-- e(1/2) is -1.
use lib.Dec.{lit<}
use Rattle.butterflies.proofs.Given.{given}
use Rattle.butterflies.proofs.Butterflies.{two_butterfly}
use Rattle.butterflies.proofs.two.Goals as goal

pub returns : goal.returns
returns c =
    let m = c.args.m in
    let sums = c.both_ways.ensures 1 1 _ _ (given c.requires.1 0 (lit< tt) m) (given c.requires.1 1 (lit< tt) m) in
    λ W half. two_butterfly m W half _ _ sums.0 sums.1
