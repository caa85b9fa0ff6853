-- From the block's end down to entry t.
use Rattle.sliding_window.specs.Blocks.{Suffixes}
use Rattle.sliding_window.proofs.extremes.suffixes.Given as goal

abbrev pub invariant-loop-t : goal.invariant-loop-t
invariant-loop-t l = Suffixes l.greatest l.run l.start l.w l.t l.best
