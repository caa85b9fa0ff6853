-- The outcome of a synthesis or an analysis, refused or accepted, as the call's own parts have it.
use mathlib.Core.Path.{◌≡◌, refl, sym, ap, ◌∙◌}
use mathlib.Core.List.{List}
use Prim.Native.Nat.{ℕ, zero, suc}
use native.Mathlib.Omega.{arith}
use lib.ListN.{length}
use Rattle.refusals.specs.declared.Refusal.{Refusal}
use Rattle.refusals.specs.Refusals.{number_of, first, accepted}
use Rattle.lengths.specs.Lengths.{cleared}
use Rattle.refusals.proofs.Tests.{fails}
use Rattle.job.specs.declared.Job.{Job}
use Rattle.std.specs.Prelude.{Ok, Err}
use Rattle.job.specs.Job.{done, refused, Worked, with_state, factors_held, map_held, synthesised, synthesis_step, analysed, analysis_step, unchanged}
use Rattle.job.specs.TestSteps.{synthesis_tests, analysis_tests}
use Rattle.job.specs.Answers.{worked}

-- the answer is a refusal where a test holds
accepted_done : (n : ℕ) (o : Worked) (u : ℕ → Worked) → ((n : ℕ) → (u n).outcome.answer ≡ refused n) → (accepted n o u).outcome.answer ≡ done → 0 ≡ n
accepted_done zero o u r e = refl
accepted_done (suc n) o u r e = let z : refused (suc n) ≡ done = sym (r (suc n)) ∙ e in let y : ◌≡◌ {A = ℕ} 0 1 = cc in absurd (omega arith)

module _ (j : Job) (v scratch : List ℕ) where
  pub synthesis_accepted : (synthesis_step j v scratch).outcome.answer ≡ done → 0 ≡ first (synthesis_tests j v (length scratch))
  unfolding synthesis_step
  synthesis_accepted a = accepted_done (first (synthesis_tests j v (length scratch))) _ (λ n. record { outcome = unchanged j v n; scratch = scratch }) (λ n. refl) a

  pub analysis_accepted : (analysis_step j v scratch).outcome.answer ≡ done → 0 ≡ first (analysis_tests j v (length scratch))
  unfolding analysis_step
  analysis_accepted a = accepted_done (first (analysis_tests j v (length scratch))) _ (λ n. record { outcome = unchanged j v n; scratch = scratch }) (λ n. refl) a

  pub synthesis_refused : (r : Refusal) → number_of r ≡ first (synthesis_tests j v (length scratch)) → worked j (Err r) v scratch ≡ synthesis_step j v scratch
  unfolding synthesis_step
  synthesis_refused r e = fails r _ _ (λ n. record { outcome = unchanged j v n; scratch = scratch }) e

  pub synthesis_done : (v' scratch' : List ℕ) → 0 ≡ first (synthesis_tests j v (length scratch)) → v' ≡ synthesised j v → scratch' ≡ cleared scratch →
      worked j (Ok (with_state j map_held)) v' scratch' ≡ synthesis_step j v scratch
  unfolding synthesis_step
  synthesis_done v' scratch' e l s = rw (← e, l, s)

  pub analysis_refused : (r : Refusal) → number_of r ≡ first (analysis_tests j v (length scratch)) → worked j (Err r) v scratch ≡ analysis_step j v scratch
  unfolding analysis_step
  analysis_refused r e = fails r _ _ (λ n. record { outcome = unchanged j v n; scratch = scratch }) e

  pub analysis_done : (v' scratch' : List ℕ) → 0 ≡ first (analysis_tests j v (length scratch)) → v' ≡ analysed j v → scratch' ≡ cleared scratch →
      worked j (Ok (with_state j factors_held)) v' scratch' ≡ analysis_step j v scratch
  unfolding analysis_step
  analysis_done v' scratch' e l s = rw (← e, l, s)

  pub synthesis_volume : (synthesis_step j v scratch).outcome.answer ≡ done → (synthesis_step j v scratch).outcome.volume ≡ synthesised j v
  synthesis_volume a = ap (λ (w : Worked). w.outcome.volume) (sym (synthesis_done (synthesised j v) (cleared scratch) (synthesis_accepted a) refl refl))
