-- Refusal 14: the tests before it make the volume one of residues, as long as the sizes ask for, and then its test decides whether a whole cell has it.
use mathlib.Core.Path.{◌≡◌, refl, ◌∙◌}
use mathlib.Core.Logic.{◌↔◌, ◌⊎◌, inl, inr}
use mathlib.Core.Bool.{true, false, not}
use mathlib.Core.List.{List, [], ◌∷◌, ◌++◌}
use Prim.Native.Nat.{ℕ, zero, suc}
use lib.Dec.{T, leb, ltb, eqb}
use lib.ListN.{length}
use borrow.Author.Tests.{not-false, eqb-true}
use Rattle.algebra.proofs.cells.CellTests.{Positive}
use Rattle.numbers.specs.Value.{prime, is_modulus}
use Rattle.numbers.proofs.Primes.{prime_pos}
use Rattle.slices.specs.Pairs.{all_below}
use Rattle.slices.proofs.Bounds.{below_all_below}
use Rattle.refusals.specs.Refusals.{Test, ◌⇒◌, first}
use Rattle.refusals.proofs.Tests.{pass, none, passed}
use Rattle.refusals.proofs.Orders.{others, other_first, refused_unless, negated}
use Rattle.lengths.specs.Lengths.{scratch_length}
use Rattle.cell.specs.Volume.{group_of}
use Rattle.cell.specs.Consistency.{consistent_factors, consistent_map}
use Rattle.cell.specs.Exactly.{FactorsConsistent, MapConsistent}
use Rattle.cell.proofs.Consistency.{factors_consistent}
use Rattle.cell.proofs.Maps.{map_consistent}
use Rattle.header.proofs.Headers.{sound_axes}
use Rattle.job.specs.declared.Job.{Job}
use Rattle.job.specs.Job.{Header, half_lengths, axis_tests, map_held, valid_job, group_in, halves, as_long, fits, not_opened, OpenOutcome, open_tests, open_step, refused, Outcome, Worked, synthesis_step, analysis_step, map_power_step, factor_power_step}
use Rattle.job.specs.TestSteps.{synthesis_tests, analysis_tests, map_power_tests, factor_power_tests}
use Rattle.job.proofs.Jobs.{valid_job_sizes}
use Rattle.job.proofs.SaidNumbers.{said_says, opening_says}
use Rattle.factor_file.specs.File.{job_file, write_tests, write_step}
use Rattle.output.specs.Output.{not_written, FillOutcome}
use Rattle.output.proofs.Answered.{fill_says}
use Rattle.demands.specs.Demands.{InconsistentExactly}

-- ---- the tests before 14

module _ (j : Job) (v : List ℕ) (scratch : ℕ) where
  abbrev before_synthesis : List Test
  before_synthesis = not (valid_job j) ⇒ 25 ∷ eqb j.state map_held ⇒ 23 ∷ not (fits j v) ⇒ 6 ∷ ltb scratch scratch_length ⇒ 13 ∷ not (all_below (prime j.modulus) v) ⇒ 7 ∷ []

  abbrev before_analysis : List Test
  before_analysis = not (valid_job j) ⇒ 25 ∷ not (eqb j.state map_held) ⇒ 22 ∷ not (fits j v) ⇒ 6 ∷ ltb scratch scratch_length ⇒ 13 ∷ not (all_below (prime j.modulus) v) ⇒ 7 ∷ []

abbrev before_writing : Job → List ℕ → List Test
before_writing j v = not (valid_job j) ⇒ 25 ∷ eqb j.state map_held ⇒ 23 ∷ not (fits j v) ⇒ 6 ∷ not (all_below (prime j.modulus) v) ⇒ 7 ∷ []

abbrev before_map : (μ : ℕ) → Header → List ℕ → List Test
before_map μ h v = leb 5 h.group ⇒ 8 ∷ not (is_modulus μ) ⇒ 26 ∷ leb 2 1 ⇒ 2 ∷ (axis_tests h ++ not (as_long h.group h.lengths v) ⇒ 6 ∷ not (all_below (prime μ) v) ⇒ 7 ∷ [])

-- ---- a job whose test for 25, and a volume whose tests for 6 and 7 have passed

module _ (j : Job) (v : List ℕ) (valid : not (valid_job j) ≡ false) (long : not (fits j v) ≡ false) (below : not (all_below (prime j.modulus) v) ≡ false) where
  sizes : Positive (halves j)
  sizes = let s = valid_job_sizes j (not-false _ valid) in (s.first.positive, s.second.positive, s.third.positive)

  job_factors : (consistent_factors (group_in j) (halves j) j.modulus v ≡ true) ↔ FactorsConsistent (group_in j) (halves j) j.modulus v
  job_factors = factors_consistent (group_in j) (halves j) sizes j.modulus v (eqb-true _ _ (not-false _ long)) (below_all_below (prime j.modulus) v (prime_pos j.modulus) (not-false _ below))

  job_map : (consistent_map (group_in j) (halves j) v ≡ true) ↔ MapConsistent (group_in j) (halves j) j.modulus v
  job_map = map_consistent (group_in j) (halves j) sizes j.modulus v (eqb-true _ _ (not-false _ long)) (below_all_below (prime j.modulus) v (prime_pos j.modulus) (not-false _ below))

header_map : (μ : ℕ) (h : Header) (v : List ℕ) → 0 ≡ first (before_map μ h v) → (consistent_map (group_of h.group) (half_lengths h.lengths) v ≡ true) ↔ MapConsistent (group_of h.group) (half_lengths h.lengths) μ v
header_map μ h v e =
    let t = (passed (before_map μ h v) tt e).1.1.1 in
    let s = sound_axes h (pass 3 _ t.0 (pass 4 _ t.1.0 (pass 5 _ t.1.1.0 (pass 9 _ t.1.1.1.0 none)))) in
    map_consistent (group_of h.group) (half_lengths h.lengths) (s.0.size.positive, s.1.size.positive, s.2.size.positive) μ v
    (eqb-true _ _ (not-false _ t.1.1.1.1.0)) (below_all_below (prime μ) v (prime_pos μ) (not-false _ t.1.1.1.1.1.0))

-- ---- the calls

module _ (j : Job) (v : List ℕ) where
  abbrev before_map_power : List Test
  before_map_power = not (valid_job j) ⇒ 25 ∷ not (eqb j.state map_held) ⇒ 22 ∷ not (fits j v) ⇒ 6 ∷ not (all_below (prime j.modulus) v) ⇒ 7 ∷ []

  abbrev before_factor_power : List Test
  before_factor_power = not (valid_job j) ⇒ 25 ∷ eqb j.state map_held ⇒ 23 ∷ not (fits j v) ⇒ 6 ∷ not (all_below (prime j.modulus) v) ⇒ 7 ∷ []

pub inconsistent_exactly : InconsistentExactly
unfolding open_step synthesis_step analysis_step map_power_step factor_power_step write_step
inconsistent_exactly = record {
  opening = λ μ h v only. refused_unless (before_map μ h v) [] (not (consistent_map (group_of h.group) (half_lengths h.lengths) v)) 13 tt (open_step μ h 1 v).answer (λ n. not_opened n 0)
      (opening_says _ _ refl (λ n. refl) (first (open_tests μ h 1 v)))
      tt (λ k e. at_fourteen (before_map μ h v) tt k (only (suc k) 0 e)) _ (λ e. negated _ (header_map μ h v e));
  synthesis = λ j v scratch only. refused_unless (before_synthesis j v (length scratch)) [] (not (consistent_factors (group_in j) (halves j) j.modulus v)) 13 tt (synthesis_step j v scratch).outcome.answer refused
      (said_says (λ (o : Worked). o.outcome.answer) _ _ refl (λ n. refl) (first (synthesis_tests j v (length scratch))))
      tt (λ k e. at_fourteen (before_synthesis j v (length scratch)) tt k (only (suc k) e)) _
      (λ e. let t = passed (before_synthesis j v (length scratch)) tt e in negated _ (job_factors j v t.0 t.1.1.0 t.1.1.1.1.0));
  analysis = λ j v scratch only. refused_unless (before_analysis j v (length scratch)) [] (not (consistent_map (group_in j) (halves j) v)) 13 tt (analysis_step j v scratch).outcome.answer refused
      (said_says (λ (o : Worked). o.outcome.answer) _ _ refl (λ n. refl) (first (analysis_tests j v (length scratch))))
      tt (λ k e. at_fourteen (before_analysis j v (length scratch)) tt k (only (suc k) e)) _
      (λ e. let t = passed (before_analysis j v (length scratch)) tt e in negated _ (job_map j v t.0 t.1.1.0 t.1.1.1.1.0));
  map_power_lem = λ j v only. refused_unless (before_map_power j v) [] (not (consistent_map (group_in j) (halves j) v)) 13 tt (map_power_step j v).answer refused
      (said_says (λ (o : Outcome). o.answer) _ _ refl (λ n. refl) (first (map_power_tests j v)))
      tt (λ k e. at_fourteen (before_map_power j v) tt k (only (suc k) e)) _
      (λ e. let t = passed (before_map_power j v) tt e in negated _ (job_map j v t.0 t.1.1.0 t.1.1.1.0));
  factor_power_lem = λ j v only. refused_unless (before_factor_power j v) [] (not (consistent_factors (group_in j) (halves j) j.modulus v)) 13 tt (factor_power_step j v).answer refused
      (said_says (λ (o : Outcome). o.answer) _ _ refl (λ n. refl) (first (factor_power_tests j v)))
      tt (λ k e. at_fourteen (before_factor_power j v) tt k (only (suc k) e)) _
      (λ e. let t = passed (before_factor_power j v) tt e in negated _ (job_factors j v t.0 t.1.1.0 t.1.1.1.0));
  writer = λ j v output only. refused_unless (before_writing j v) (ltb (length output) (length (job_file j v)) ⇒ 18 ∷ []) (not (consistent_factors (group_in j) (halves j) j.modulus v)) 13 tt (write_step j v output).answer not_written
      (fill_says (λ (o : FillOutcome). o.answer) _ _ (length (job_file j v)) refl (λ n. refl) (first (write_tests j v output)))
      tt (λ k e. after_seven j v k (only (suc k) e)) _
      (λ e. let t = passed (before_writing j v) tt e in negated _ (job_factors j v t.0 t.1.1.0 t.1.1.1.0));
}
  where
    at_fourteen : (ts : List Test) → T (others 14 ts) → (k : ℕ) → suc k ≡ 14 → first ts ≡ suc k → ⊥
    at_fourteen ts t k e f = other_first 13 ts t (f ∙ e)

    after_seven : (j : Job) (v : List ℕ) (k : ℕ) → (suc k ≡ 14) ⊎ (suc k ≡ 18) → first (before_writing j v) ≡ suc k → ⊥
    after_seven j v k (inl e) f = other_first 13 (before_writing j v) tt (f ∙ e)
    after_seven j v k (inr e) f = other_first 17 (before_writing j v) tt (f ∙ e)
