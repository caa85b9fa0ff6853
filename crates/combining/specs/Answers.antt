-- What the call returned and left, in the words of its promise.
use Rattle.algebra.specs.Prelude.{ℕ, List}
use Rattle.signed.specs.Integers.{ℤ}
use Rattle.std.specs.Prelude.{Result}
use Rattle.refusals.specs.declared.Refusal.{Refusal}
use Rattle.output.specs.Answers.{said_fill}
use Rattle.combining.specs.Combining.{CombineOutcome}

abbrev pub combine_outcome : Result ℕ Refusal → List ℤ → CombineOutcome
combine_outcome r output = record { answer = said_fill r; output = output }
