-- The outcome of a refused call and of an accepted one.
use mathlib.Core.Path.{◌≡◌, ◌∙◌, ap}
use mathlib.Core.List.{List}
use Prim.Native.Nat.{ℕ}
use lib.ListN.{length}
use lib.IntN.{ℤ}
use Rattle.refusals.specs.declared.Refusal.{Refusal}
use Rattle.refusals.specs.Refusals.{number_of, first}
use Rattle.refusals.proofs.Tests.{passes, fails}
use Rattle.output.specs.Output.{Filled.not_written}
use Rattle.std.specs.Prelude.{Ok, Err}
use Rattle.combined.specs.Chinese.{combined_numbers}
use Rattle.job.specs.declared.Job.{Job}
use Rattle.combining.specs.Combining.{combine_tests, combine_step}
use Rattle.combining.specs.Answers.{combine_outcome}

module _ (i : Job) (v : List ℕ) (j : Job) (w : List ℕ) (o : List ℤ) where
  pub refused_outcome : (r : Refusal) → number_of r ≡ first (combine_tests i j v w (length o)) → combine_outcome (Err r) o ≡ combine_step i v j w o
  unfolding combine_step
  refused_outcome r e = fails r _ _ (λ n. record { answer = not_written n; output = o }) e

  pub accepted_outcome : {o' : List ℤ} → 0 ≡ first (combine_tests i j v w (length o)) → o' ≡ combined_numbers v w → combine_outcome (Ok (length o)) o' ≡ combine_step i v j w o
  unfolding combine_step
  accepted_outcome e q = ap (λ (l : List ℤ). combine_outcome (Ok (length o)) l) q ∙ passes _ _ _ e
