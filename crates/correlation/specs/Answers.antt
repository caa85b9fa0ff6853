-- What the call returned and left, in the words of its promise.
use Rattle.algebra.specs.Prelude.{ℕ, List}
use Rattle.signed.specs.Integers.{ℤ}
use Rattle.std.specs.Prelude.{Result}
use Rattle.refusals.specs.declared.Refusal.{Refusal}
use Rattle.output.specs.Answers.{said_fill}
use Rattle.correlation.specs.Correlation.{Buffers, CorrelationOutcome}

abbrev pub buffers : List ℤ → (work1 work2 work3 scratch : List ℕ) → Buffers
buffers output work1 work2 work3 scratch =
    record { output = output; work1 = work1; work2 = work2; work3 = work3; scratch = scratch }

abbrev pub correlation_outcome : Result ℕ Refusal → Buffers → CorrelationOutcome
correlation_outcome r w = record { answer = said_fill r; buffers = w }
