-- What the reading of a point said, in the words of its promise.
use Rattle.std.specs.Prelude.{ℤ, Result, Ok, Err}
use Rattle.refusals.specs.Refusals.{number_of}
use Rattle.refusals.specs.declared.Refusal.{Refusal}
use Rattle.combined.specs.Reading.{Counted, counted, not_counted}

abbrev pub said_count : Result ℤ Refusal → Counted
said_count (Ok n) = counted n
said_count (Err r) = not_counted (number_of r)
