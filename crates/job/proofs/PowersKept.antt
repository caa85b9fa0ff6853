-- Power is kept by every accepted synthesis and every accepted analysis: what they leave passes the other power's tests, and the sums are those of one cell.
use mathlib.Core.Path.{◌≡◌, refl, sym, ◌∙◌, ap, ap₂, subst}
use mathlib.Core.Bool.{true, false}
use mathlib.Core.List.{List}
use Prim.Native.Nat.{ℕ, ◌*◌, ◌/◌, ◌%◌}
use native.Mathlib.Omega.{arith}
use lib.Dec.{eqb}
use lib.ListN.{length}
use borrow.Author.Tests.{eq-eqb, eqb-true, not-false}
use Rattle.refusals.specs.Refusals.{first}
use Rattle.refusals.proofs.Tests.{pass, none, not_t, passed}
use Rattle.algebra.specs.cells.Cell.{Cell}
use Rattle.algebra.proofs.cells.CellTests.{Positive}
use Rattle.numbers.specs.Value.{prime, Value}
use Rattle.lengths.specs.Lengths.{cleared}
use Rattle.slices.specs.Pairs.{Below}
use Rattle.slices.proofs.Bounds.{all_below_below}
use Rattle.line.proofs.kinds.Axes.{axis_laws}
use Rattle.cell.specs.Volume.{volume_length, factors_in, map_in, map_of, factors_of}
use Rattle.cell.specs.Consistency.{consistent_factors, consistent_map}
use Rattle.cell.proofs.VolumeLayout.{length_map, below_map}
use Rattle.cell.proofs.Reading.{length_factors, below_factors}
use Rattle.cell.proofs.Consistency.{consistent_read, factors_consistent}
use Rattle.cell.proofs.Maps.{map_consistent}
use Rattle.cell.proofs.Points.{map_real, map_obeys, opened_factors}
use Rattle.power.specs.Power.{cell_points, factor_power}
use Rattle.power.proofs.PowerKept.{synthesis_kept, analysis_kept}
use Rattle.job.specs.declared.Job.{Job}
use Rattle.job.specs.Job.{valid_job, group_in, halves, with_state, factors_held, map_held, synthesised, analysed, power, Worked, map_power_step, factor_power_step}
use Rattle.job.specs.TestSteps.{synthesis_tests, analysis_tests, map_power_tests, factor_power_tests}
use Rattle.job.specs.PowerKept.{PowerKept, times_points}
use Rattle.job.proofs.Jobs.{valid_modulus, valid_with, valid_job_sizes}
use Rattle.job.proofs.Volumes.{synthesis_ready, analysis_ready}
use Rattle.job.proofs.Outcomes.{synthesis_accepted, synthesis_done, analysis_accepted, analysis_done}
use Rattle.job.proofs.Powers.{map_power_said, factor_power_said}

even_whole : (n : ℕ) → n % 2 ≡ 0 → 2 * (n / 2) ≡ n
even_whole n e = omega arith

module _ (j : Job) (valid : valid_job j ≡ true) where
  -- the cell's points by the job's lengths
  pub points : (p : ℕ) → (cell_points (halves j) * p) % prime j.modulus ≡ times_points j p
  points p =
      let s = (valid_job_sizes j valid).sizes in
      ap (λ n. (n * p) % prime j.modulus) (ap₂ (λ x y. x * y) (ap₂ (λ x y. x * y) (even_whole _ s.first.even) (even_whole _ s.second.even)) (even_whole _ s.third.even))

  -- what passes the tests of a power
  map_passes : (v : List ℕ) → j.state ≡ map_held → length v ≡ volume_length (group_in j) (halves j) → Below (prime j.modulus) v → consistent_map (group_in j) (halves j) v ≡ true → 0 ≡ first (map_power_tests j v)
  map_passes v s l b c = pass 25 _ (not_t _ valid) (pass 22 _ (not_t _ (eq-eqb _ _ s)) (pass 6 _ (not_t _ (eq-eqb _ _ l)) (pass 7 _ (not_t _ (all_below_below _ v b)) (pass 14 _ (not_t _ c) none))))

  factors_pass : (v : List ℕ) → eqb j.state map_held ≡ false → length v ≡ volume_length (group_in j) (halves j) → Below (prime j.modulus) v → consistent_factors (group_in j) (halves j) j.modulus v ≡ true → 0 ≡ first (factor_power_tests j v)
  factors_pass v s l b c = pass 25 _ (not_t _ valid) (pass 23 _ s (pass 6 _ (not_t _ (eq-eqb _ _ l)) (pass 7 _ (not_t _ (all_below_below _ v b)) (pass 14 _ (not_t _ c) none))))

module _ (j : Job) (v scratch : List ℕ) (e : 0 ≡ first (synthesis_tests j v (length scratch))) where
  abbrev factors_read : Cell (Value j.modulus)
  factors_read = factors_in (group_in j) (halves j) j.modulus v

  after_synthesis : (p : ℕ) × ((factor_power_step j v).answer ≡ power p) × ((map_power_step (with_state j map_held) (synthesised j v)).answer ≡ power (times_points j p))
  after_synthesis =
      let r = synthesis_ready j v (length scratch) e in
      let valid = r.0.valid in
      let s = valid_job_sizes j valid in
      let long : Positive (halves j) = (s.first.positive, s.second.positive, s.third.positive) in
      let is = valid_modulus j valid in
      let lawful = (consistent_read (group_in j) (halves j) long j.modulus v r.0.long r.0.small r.1).0 in
      let M = map_of j.modulus (halves j) factors_read in
      let lm = length_map (group_in j) (halves j) j.modulus M in
      let bm = below_map (group_in j) (halves j) j.modulus M in (
        factor_power (group_in j) (halves j) j.modulus v,
        sym (factor_power_said j v _ (factors_pass j valid v (passed (synthesis_tests j v (length scratch)) tt e).1.0 r.0.long r.0.small r.1) refl),
        sym (map_power_said (with_state j map_held) (synthesised j v) _
            (map_passes (with_state j map_held) (valid_with j map_held valid (omega arith)) (synthesised j v) refl lm bm
            ((map_consistent (group_in j) (halves j) long j.modulus (synthesised j v) lm bm).1 (M, map_real (group_in j) (halves j) j.modulus (axis_laws j.modulus is s.first) (axis_laws j.modulus is s.second) (axis_laws j.modulus is s.third) factors_read lawful, map_obeys (group_in j) (halves j) j.modulus (axis_laws j.modulus is s.first) (axis_laws j.modulus is s.second) (axis_laws j.modulus is s.third) factors_read lawful, refl)))
            (sym (points j valid _) ∙ sym (synthesis_kept (group_in j) (halves j) j.modulus (axis_laws j.modulus is s.first) (axis_laws j.modulus is s.second) (axis_laws j.modulus is s.third) v r.0.long r.0.small r.1))),
      )

module _ (j : Job) (v scratch : List ℕ) (e : 0 ≡ first (analysis_tests j v (length scratch))) where
  abbrev map_read : Cell (Value j.modulus)
  map_read = map_in (group_in j) (halves j) j.modulus v

  after_analysis : (p : ℕ) × ((map_power_step j v).answer ≡ power (times_points j p)) × ((factor_power_step (with_state j factors_held) (analysed j v)).answer ≡ power p)
  after_analysis =
      let r = analysis_ready j v (length scratch) e in
      let valid = r.0.valid in
      let s = valid_job_sizes j valid in
      let long : Positive (halves j) = (s.first.positive, s.second.positive, s.third.positive) in
      let is = valid_modulus j valid in
      let F = factors_of j.modulus (halves j) map_read in
      let lawful = opened_factors (group_in j) (halves j) j.modulus (axis_laws j.modulus is s.first) (axis_laws j.modulus is s.second) (axis_laws j.modulus is s.third) v r.0.long r.0.small r.1 in
      let lf = length_factors (group_in j) (halves j) j.modulus F in
      let bf = below_factors (group_in j) (halves j) j.modulus F in (
        factor_power (group_in j) (halves j) j.modulus (analysed j v),
        sym (map_power_said j v _ (map_passes j valid v (eqb-true _ _ (not-false _ (passed (analysis_tests j v (length scratch)) tt e).1.0)) r.0.long r.0.small r.1)
            (sym (points j valid _) ∙ sym (analysis_kept (group_in j) (halves j) j.modulus (axis_laws j.modulus is s.first) (axis_laws j.modulus is s.second) (axis_laws j.modulus is s.third) v r.0.long r.0.small r.1))),
        sym (factor_power_said (with_state j factors_held) (analysed j v) _
            (factors_pass (with_state j factors_held) (valid_with j factors_held valid (omega arith)) (analysed j v) refl lf bf
            ((factors_consistent (group_in j) (halves j) long j.modulus (analysed j v) lf bf).1 (F, lawful, refl)))
            refl),
      )

pub power_kept : PowerKept
power_kept = record {
  synthesis = λ j v scratch a. let e = synthesis_accepted j v scratch a in
      subst (λ (w : Worked). (p : ℕ) × ((factor_power_step j v).answer ≡ power p) × ((map_power_step w.outcome.job w.outcome.volume).answer ≡ power (times_points j p))) (synthesis_done j v scratch (synthesised j v) (cleared scratch) e refl refl) (after_synthesis j v scratch e);
  analysis = λ j v scratch a. let e = analysis_accepted j v scratch a in
      subst (λ (w : Worked). (p : ℕ) × ((map_power_step j v).answer ≡ power (times_points j p)) × ((factor_power_step w.outcome.job w.outcome.volume).answer ≡ power p)) (analysis_done j v scratch (analysed j v) (cleared scratch) e refl refl) (after_analysis j v scratch e);
}
