-- A power: what the call answers, refused or accepted.
use mathlib.Core.Path.{◌≡◌, refl, ◌∙◌, ap}
use mathlib.Core.Bool.{Bool, false, not}
use mathlib.Core.List.{List, [], ◌∷◌}
use Prim.Native.Nat.{ℕ}
use Rattle.refusals.specs.declared.Refusal.{Refusal}
use Rattle.refusals.specs.Refusals.{number_of, first, ◌⇒◌}
use Rattle.refusals.proofs.Tests.{fails, passes}
use Rattle.lengths.specs.Lengths.{scratch_length}
use Rattle.power.specs.Power.{map_power, factor_power}
use Rattle.job.specs.declared.Job.{Job}
use Rattle.job.specs.Job.{valid_job, group_in, halves, map_power_step, factor_power_step, unchanged, power, refused, Outcome}
use Rattle.job.specs.TestSteps.{synthesis_tests, analysis_tests, map_power_tests, factor_power_tests}

-- with scratch enough, 13 is as if it were not asked
pub without_scratch : (b c d e f : Bool) (n : ℕ) → first (b ⇒ 25 ∷ c ⇒ n ∷ d ⇒ 6 ∷ false ⇒ 13 ∷ e ⇒ 7 ∷ f ⇒ 14 ∷ []) ≡ first (b ⇒ 25 ∷ c ⇒ n ∷ d ⇒ 6 ∷ e ⇒ 7 ∷ f ⇒ 14 ∷ [])
unfolding first
without_scratch b c d e f n = refl

module _ (j : Job) (v : List ℕ) where
  pub as_analysis : first (analysis_tests j v scratch_length) ≡ first (map_power_tests j v)
  as_analysis = without_scratch (not (valid_job j)) _ _ _ _ 22

  pub as_synthesis : first (synthesis_tests j v scratch_length) ≡ first (factor_power_tests j v)
  as_synthesis = without_scratch (not (valid_job j)) _ _ _ _ 23

  pub map_power_refused : (r : Refusal) → number_of r ≡ first (map_power_tests j v) → refused (number_of r) ≡ (map_power_step j v).answer
  unfolding map_power_step
  map_power_refused r e = ap (λ (o : Outcome). o.answer) (fails r _ _ (unchanged j v) e)

  pub map_power_said : (n : ℕ) → 0 ≡ first (map_power_tests j v) → n ≡ map_power (group_in j) (halves j) j.modulus v → power n ≡ (map_power_step j v).answer
  unfolding map_power_step
  map_power_said n e s = ap power s ∙ ap (λ (o : Outcome). o.answer) (passes _ _ (unchanged j v) e)

  pub factor_power_refused : (r : Refusal) → number_of r ≡ first (factor_power_tests j v) → refused (number_of r) ≡ (factor_power_step j v).answer
  unfolding factor_power_step
  factor_power_refused r e = ap (λ (o : Outcome). o.answer) (fails r _ _ (unchanged j v) e)

  pub factor_power_said : (n : ℕ) → 0 ≡ first (factor_power_tests j v) → n ≡ factor_power (group_in j) (halves j) j.modulus v → power n ≡ (factor_power_step j v).answer
  unfolding factor_power_step
  factor_power_said n e s = ap power s ∙ ap (λ (o : Outcome). o.answer) (passes _ _ (unchanged j v) e)
