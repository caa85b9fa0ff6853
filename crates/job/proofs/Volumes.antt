-- The volume of a valid job, lent to the lines of the job's plan: what they ask for, and what all their turns come to.
use mathlib.Core.Path.{◌≡◌, ◌∙◌, sym, ap, subst}
use mathlib.Core.Bool.{Bool, true, not}
use mathlib.Core.List.{List, [], ◌∷◌}
use Prim.Native.Nat.{ℕ, ◌≤◌, ◌<◌}
use lib.ListN.{length}
use lib.Dec.{ltb, eqb}
use borrow.Author.Tests.{not-false, ltb-false, eqb-true}
use Rattle.refusals.specs.Refusals.{◌⇒◌, first}
use Rattle.refusals.proofs.Tests.{Passed, passed}
use Rattle.numbers.specs.Value.{prime}
use Rattle.numbers.proofs.Primes.{prime_pos}
use Rattle.slices.specs.Pairs.{Below, all_below}
use Rattle.slices.proofs.Bounds.{below_all_below}
use Rattle.lengths.specs.Lengths.{scratch_length}
use Rattle.cell.specs.Volume.{volume_length}
use Rattle.cell.specs.Consistency.{consistent_factors, consistent_map}
use Rattle.volume_transform.specs.declared.plan.Plan.{Plan}
use Rattle.volume_transform.specs.Axes.{line_count}
use Rattle.volume_transform.specs.Plans.{plan_group, plan_halves, Planned, Fitting, plan_turn}
use Rattle.volume_transform.specs.Turns.{turns}
use Rattle.volume_transform.proofs.sums.Whole as Whole
use Rattle.job.specs.declared.Job.{Job}
use Rattle.job.specs.Job.{valid_job, header_of, group_in, halves, as_long, map_held, synthesised, analysed}
use Rattle.job.specs.TestSteps.{synthesis_tests, analysis_tests}
use Rattle.job.specs.Plans.{plan_of}
use Rattle.job.proofs.Jobs.{valid_modulus, valid_job_sizes}

-- every line of a plan in its turn
abbrev all_turned : Plan → List ℕ → List ℕ
all_turned p v = turns (plan_turn p) 0 (line_count (plan_group p) (plan_halves p)) v

-- what a synthesis or an analysis knows of its job, its volume and its scratch where none of its tests holds
pub record Ready (j : Job) (v : List ℕ) (scratch : ℕ) : Type 0 where
  pub valid : valid_job j ≡ true
  pub long : length v ≡ volume_length (group_in j) (halves j)
  pub room : scratch_length ≤ scratch
  pub small : Below (prime j.modulus) v

pub lent : {j : Job} {v : List ℕ} {scratch : ℕ} → Ready j v scratch → (direction : ℕ) (p : Plan) → p ≡ plan_of j direction → direction < 2
    → Planned p × (Fitting p v × (scratch_length ≤ scratch))
lent {j} {v} {scratch} r direction p e l =
    subst (λ p. Planned p × (Fitting p v × (scratch_length ≤ scratch))) (sym e)
    (record { modulus = valid_modulus j r.valid; directed = l; sizes = valid_job_sizes j r.valid }, (record { long = r.long; small = r.small }, r.room))

module _ (j : Job) (v : List ℕ) (scratch : ℕ) where
  -- the tests of both: they differ in the state that they ask for and in what is consistent
  ready : (state consistent : Bool) (number : ℕ)
      → Passed (not (valid_job j) ⇒ 25 ∷ state ⇒ number ∷ not (as_long j.group (header_of j).lengths v) ⇒ 6 ∷ ltb scratch scratch_length ⇒ 13 ∷ not (all_below (prime j.modulus) v) ⇒ 7 ∷ not consistent ⇒ 14 ∷ [])
      → Ready j v scratch × (consistent ≡ true)
  ready state consistent number clear = (
    record {
      valid = not-false _ clear.0;
      long = eqb-true _ _ (not-false _ clear.1.1.0);
      room = ltb-false _ _ clear.1.1.1.0;
      small = below_all_below (prime j.modulus) v (prime_pos j.modulus) (not-false _ clear.1.1.1.1.0);
    },
    not-false _ clear.1.1.1.1.1.0,
  )

  pub synthesis_ready : 0 ≡ first (synthesis_tests j v scratch) → Ready j v scratch × (consistent_factors (group_in j) (halves j) j.modulus v ≡ true)
  synthesis_ready none = ready (eqb j.state map_held) (consistent_factors (group_in j) (halves j) j.modulus v) 23 (passed (synthesis_tests j v scratch) tt none)

  pub analysis_ready : 0 ≡ first (analysis_tests j v scratch) → Ready j v scratch × (consistent_map (group_in j) (halves j) v ≡ true)
  analysis_ready none = ready (not (eqb j.state map_held)) (consistent_map (group_in j) (halves j) v) 22 (passed (analysis_tests j v scratch) tt none)

  pub all_synthesised : 0 ≡ first (synthesis_tests j v scratch) → (p : Plan) → p ≡ plan_of j 0 → all_turned p v ≡ synthesised j v
  all_synthesised none p e =
      let r = synthesis_ready none in
      ap (λ p. all_turned p v) e ∙ Whole.synthesised j.modulus (valid_modulus j r.0.valid) (valid_job_sizes j r.0.valid) v r.0.long r.0.small r.1

  pub all_analysed : 0 ≡ first (analysis_tests j v scratch) → (p : Plan) → p ≡ plan_of j 1 → all_turned p v ≡ analysed j v
  all_analysed none p e =
      let r = analysis_ready none in
      ap (λ p. all_turned p v) e ∙ Whole.analysed j.modulus (valid_modulus j r.0.valid) (valid_job_sizes j r.0.valid) v r.0.long r.0.small r.1
