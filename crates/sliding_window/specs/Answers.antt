-- What the call returned and left, in the words of its promise.
use Rattle.algebra.specs.Prelude.{ℕ, List}
use Rattle.std.specs.Prelude.{ℤ}
use Rattle.std.specs.Prelude.{Result}
use Rattle.refusals.specs.declared.Refusal.{Refusal}
use Rattle.output.specs.Answers.{said_fill}
use Rattle.sliding_window.specs.Window.{WindowOutcome}

abbrev pub window_outcome : Result ℕ Refusal →
    (least greatest : List ℤ) (place_of_least place_of_greatest : List ℕ) → WindowOutcome
window_outcome r least greatest place_of_least place_of_greatest =
    record {
      answer = said_fill r;
      outputs = record {
        least = least;
        greatest = greatest;
        place_of_least = place_of_least;
        place_of_greatest = place_of_greatest;
      };
    }
