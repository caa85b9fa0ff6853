-- Any job and volume that synthesis accepts are those of a sound model, whose F is what is read off the volume. So its map is real at every point, and analysis of it restores the packed factors.
use mathlib.Core.Path.{◌≡◌, refl, sym, ap, ◌∙◌, subst}
use mathlib.Core.Bool.{true}
use mathlib.Core.List.{List}
use Prim.Native.Nat.{ℕ, zero, suc, ◌≤◌}
use native.Mathlib.Omega.{arith}
use lib.ListN.{length}
use borrow.Author.Tests.{not-false, eqb-true, le-ltb}
use Rattle.algebra.specs.cells.CellSteps.{Lawful}
use Rattle.numbers.specs.Value.{prime, field, conj}
use Rattle.numbers.proofs.Primes.{prime_pos}
use Rattle.slices.proofs.Bounds.{below_all_below}
use Rattle.refusals.specs.Refusals.{first, accepted}
use Rattle.lengths.specs.Lengths.{scratch_length, cleared}
use Rattle.refusals.proofs.Tests.{none, pass, Passed, passed}
use Rattle.cell.specs.Volume.{factors_in}
use Rattle.cell.proofs.Consistency.{consistent_read}
use Rattle.job.specs.declared.Job.{Job}
use Rattle.job.specs.Job.{factors_held, map_held, header_of, with_state, valid_job, group_in, halves, done, refused, Outcome, Worked, unchanged, synthesised, synthesis_step, analysis_step, point_step}
use Rattle.job.specs.TestSteps.{synthesis_tests}
use Rattle.job.proofs.Outcomes.{synthesis_accepted}
use Rattle.job.proofs.Jobs.{job_of_header, valid_with, valid_job_sizes}
use Rattle.model.specs.Model.{Model, group, half, analysis, in_state, factor_volume, model_volume, model_job}
use Rattle.demands.specs.Demands.{MapsReal, AnalysisRestores}
use Rattle.model.proofs.Sound.{LawfulModel, holds_map, holds_factors}
use Rattle.model.proofs.OneCall.{result, accepted_call}
use Rattle.demands.proofs.Corollaries.{point_is_sum}

module _ (j : Job) (v scratch : List ℕ) (e : 0 ≡ first (synthesis_tests j v (length scratch))) where
  -- they are those of the model whose F is what is read off the volume
  abbrev held : Model j.modulus
  held = record { header = header_of j; state = j.state; F = factors_in (group_in j) (halves j) j.modulus v }

  is_held : j ≡ model_job held
  is_held = sym (job_of_header j)

  tests : Passed (synthesis_tests j v (length scratch))
  tests = passed (synthesis_tests j v (length scratch)) tt e

  valid : valid_job j ≡ true
  valid = not-false _ tests.0

  read_back : Lawful (field j.modulus) (conj j.modulus) (half held) (group held) held.F × (factor_volume held ≡ v)
  read_back =
      let s = valid_job_sizes j valid in
      consistent_read (group_in j) (halves j) (s.first.positive, s.second.positive, s.third.positive) j.modulus v
      (eqb-true _ _ (not-false _ tests.1.1.0)) (below_all_below (prime j.modulus) v (prime_pos j.modulus) (not-false _ tests.1.1.1.1.0)) (not-false _ tests.1.1.1.1.1.0)

  held_sound : LawfulModel (in_state held map_held)
  held_sound = record { valid = valid_with (model_job held) map_held (subst (λ (j : Job). valid_job j ≡ true) is_held valid) (omega arith); lawful = read_back.0 }

  synthesis_makes : (synthesis_step j v scratch).outcome ≡ result done (in_state held map_held)
  unfolding synthesis_step
  synthesis_makes =
      (λ i. (accepted {O = Worked} (sym e i) (record { outcome = record { answer = done; job = with_state j map_held; volume = synthesised j v }; scratch = cleared scratch }) (λ n. record { outcome = unchanged j v n; scratch = scratch })).outcome)
      ∙ λ i. record { answer = done; job = with_state (is_held i) map_held; volume = sym (holds_map (in_state held map_held) refl) i }

  held_restores : (scratch' : List ℕ) → scratch_length ≤ length scratch' → (analysis_step (model_job (in_state held map_held)) (model_volume (in_state held map_held)) scratch').outcome ≡ record { answer = done; job = with_state j factors_held; volume = v }
  held_restores scratch' l =
      accepted_call (in_state held map_held) held_sound (analysis scratch') (pass 22 _ refl (pass 13 _ (le-ltb _ _ l) none))
      ∙ λ i. record { answer = done; job = with_state (sym is_held i) factors_held; volume = (holds_factors (in_state held factors_held) refl ∙ read_back.1) i }

pub maps_real : MapsReal
maps_real = record {
  real = λ j v scratch a x w.
      let e = synthesis_accepted j v scratch a in
      let r = point_is_sum (in_state (held j v scratch e) map_held) (held_sound j v scratch e) refl x w in
      (ap (λ (o : Outcome). (point_step o.job x o.volume).answer) (synthesis_makes j v scratch e) ∙ r.0, r.1);
}

pub analysis_restores : AnalysisRestores
analysis_restores = record {
  restores = λ j v scratch scratch' a l.
      let e = synthesis_accepted j v scratch a in
      ap (λ (o : Outcome). (analysis_step o.job o.volume scratch').outcome) (synthesis_makes j v scratch e) ∙ held_restores j v scratch e scratch' l;
}
