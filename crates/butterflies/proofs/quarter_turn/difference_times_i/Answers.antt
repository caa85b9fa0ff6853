-- Both are taken from a number that stands for 0, and i (a + b i) is -b + a i.
use Rattle.numbers.proofs.unreduced.Unreduced.{accumulated_times_i}
use Rattle.butterflies.proofs.quarter_turn.difference_times_i.Goals as goal

pub returns : goal.returns
returns c = λ m is. accumulated_times_i m is c.requires.0 c.requires.1
