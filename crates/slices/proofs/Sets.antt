-- What `search` is handed at the needs of a loop that fills.
use borrow.Author.Rules.{rules}
use Rattle.slices.proofs.Filling.{filling_start, filling_next, filling_done, filling_whole}
use Rattle.slices.proofs.Bounds.{small_of}

pub ruleset fill = (rules, filling_start, filling_next, filling_done, filling_whole, small_of)
