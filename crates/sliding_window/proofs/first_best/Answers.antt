-- The theorems, promised.
use Rattle.sliding_window.proofs.FirstBest.{first_best}
use Rattle.sliding_window.proofs.EachWindow.{each_window}
use Rattle.sliding_window.proofs.first_best.Goals as goal

pub returns : goal.returns
returns c = (first_best, each_window)
