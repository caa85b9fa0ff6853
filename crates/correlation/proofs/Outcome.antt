-- What a refused call and an accepted one come to.
use mathlib.Core.Path.{◌≡◌, ◌∙◌, ap}
use mathlib.Core.List.{List}
use Prim.Native.Nat.{ℕ}
use lib.ListN.{length, replicate}
use lib.IntN.{ℤ}
use Rattle.algebra.specs.cells.Cell.{P1}
use Rattle.refusals.specs.declared.Refusal.{Refusal}
use Rattle.refusals.specs.Refusals.{number_of, first}
use Rattle.refusals.proofs.Tests.{passes, fails}
use Rattle.lengths.specs.Lengths.{cleared}
use Rattle.output.specs.Output.{Filled.written, Filled.not_written}
use Rattle.std.specs.Prelude.{Ok, Err}
use Rattle.cell.specs.Volume.{volume_length}
use Rattle.header.specs.Header.{Header, half_lengths}
use Rattle.correlation.specs.Correlation.{Buffers, correlation, correlation_tests, correlated_outcome, correlation_step}
use Rattle.correlation.specs.Answers.{correlation_outcome}

-- as many zeros
pub zeros_as : (n k : ℕ) {w : List ℕ} → w ≡ replicate n 0 → n ≡ k → w ≡ replicate k 0
zeros_as n k e q = e ∙ ap (λ j. replicate j 0) q

module _ (c : Header) (a b : List ℤ) (w : Buffers) where
  abbrev tested : ℕ
  tested = first (correlation_tests c a b (length w.output) (length w.work1) (length w.work2) (length w.work3) (length w.scratch))

  abbrev count : ℕ
  count = volume_length P1 (half_lengths c.lengths)

  pub refused_outcome : (r : Refusal) → number_of r ≡ tested → correlation_outcome (Err r) w ≡ correlation_step c a b w
  unfolding correlation_step
  refused_outcome r e = fails r _ _ (λ n. record { answer = not_written n; buffers = w }) e

  pub accepted_outcome : {n : ℕ} {output : List ℤ} {work1 work2 work3 scratch : List ℕ} → 0 ≡ tested → n ≡ count → output ≡ correlation (half_lengths c.lengths) a b → work1 ≡ replicate count 0 → work2 ≡ replicate count 0 → work3 ≡ replicate count 0 → scratch ≡ cleared w.scratch
      → correlation_outcome (Ok n) (record { output = output; work1 = work1; work2 = work2; work3 = work3; scratch = scratch }) ≡ correlation_step c a b w
  unfolding correlation_step
  accepted_outcome e n o w1 w2 w3 s =
      ◌∙◌ {b = correlated_outcome c.lengths a b w} (λ i. record { answer = written (n i); buffers = record { output = o i; work1 = w1 i; work2 = w2 i; work3 = w3 i; scratch = s i } }) (passes _ _ _ e)
