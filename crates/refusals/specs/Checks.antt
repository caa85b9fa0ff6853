-- What a check answers.
use Rattle.std.specs.Prelude.{ℕ, Result, Ok, Err}
use Rattle.refusals.specs.declared.Refusal.{Refusal}
use Rattle.refusals.specs.Refusals.{number_of}

-- what a check says: 0, or the refusal's number
abbrev pub checked_number : Result (Unit {0}) Refusal → ℕ
checked_number (Ok _) = 0
checked_number (Err r) = number_of r
