-- What a call that fills an output returned and left, in the words of its promise.
use Rattle.std.specs.Prelude.{Result, Ok, Err}
use Rattle.algebra.specs.Prelude.{ℕ, List}
use Rattle.refusals.specs.Refusals.{number_of}
use Rattle.refusals.specs.declared.Refusal.{Refusal}
use Rattle.output.specs.Output.{Filled, written, not_written, FillOutcome}

abbrev pub said_fill : Result ℕ Refusal → Filled
said_fill (Ok n) = written n
said_fill (Err r) = not_written (number_of r)

abbrev pub fill_outcome : Result ℕ Refusal → List ℕ → FillOutcome
fill_outcome r output = record { answer = said_fill r; output = output }
