-- The outcome of writing a file, from what was stored and the tests found.
use mathlib.Core.Path.{◌≡◌, refl, ◌∙◌, ap}
use mathlib.Core.Bool.{true, not}
use mathlib.Core.List.{List, ◌∷◌}
use Prim.Native.Nat.{ℕ, ◌<◌, ◌≤◌}
use native.Mathlib.Omega.{arith}
use lib.ListN.{length}
use lib.Dec.{eqb, ltb}
use borrow.Author.Tests.{lt-ltb, le-ltb, ltb-false}
use Rattle.refusals.specs.declared.Refusal.{Refusal}
use Rattle.refusals.specs.Refusals.{number_of, Test, ◌⇒◌, first, accepted}
use Rattle.lengths.specs.Lengths.{scratch_length}
use Rattle.refusals.proofs.Tests.{Passed, passed, fails, stop, pass, none, append_stop, append_pass, not_zero}
use Rattle.cell.specs.Volume.{volume_length}
use Rattle.job.specs.declared.Job.{Job}
use Rattle.job.specs.Job.{job_cell, header_of, axis_tests, valid_job, map_held, group_in, halves, fits, factors_tests}
use Rattle.job.specs.TestSteps.{synthesis_tests}
use Rattle.job.proofs.Jobs.{valid_parts}
use Rattle.output.specs.Written.{Wrote}
use Rattle.output.proofs.Writing.{wrote_filled}
use Rattle.std.specs.Prelude.{Result}
use Rattle.std.specs.Prelude.{Err}
use Rattle.factor_file.specs.File.{job_records, job_file, room_tests, held_tests, write_tests, write_step, bytes, not_sized, length_step}
use Rattle.output.specs.Output.{written, not_written, FillOutcome, filled, not_filled}
use Rattle.output.specs.Answers.{fill_outcome}
use Rattle.factor_file.specs.Steps.{file_with, filed}

-- ---- the outcome

-- what the number of the first test makes of it
abbrev pub told : (file output : List ℕ) → ℕ → FillOutcome
told file output k = accepted k (filled file output) (not_filled output)

module _ (file output : List ℕ) where
  pub filed_short : length output < length file → record { answer = not_written 18; output = output } ≡ filed file output
  filed_short h = ap (told file output) (stop _ (lt-ltb (length output) (length file) h))

  pub filed_whole : {r : ℕ} {after : List ℕ} → length file ≤ length output → Wrote 0 file output r after → record { answer = written r; output = after } ≡ filed file output
  filed_whole h p = wrote_filled p (omega arith) ∙ ap (told file output) (pass 18 _ (le-ltb (length output) (length file) h) none)

-- ---- a job's file

module _ (j : Job) (v output : List ℕ) where
  -- 25, 23, 6, 7, 14: the job holds factors, and the volume is those of a cell
  abbrev pub held : List Test
  held = not (valid_job j) ⇒ 25 ∷ eqb j.state map_held ⇒ 23 ∷ not (fits j v) ⇒ 6 ∷ factors_tests j.modulus j.group (header_of j).lengths v

  -- they are those of a synthesis with a scratch that is long enough
  pub held_first : first (synthesis_tests j v scratch_length) ≡ first held
  unfolding first
  held_first = refl

  rest : List Test
  rest = room_tests (length (job_file j v)) (length output)

  pub write_refused : (r : Refusal) → number_of r ≡ first held → fill_outcome (Err r) output ≡ write_step j v output
  unfolding write_step rest
  write_refused r e = fails r (first (write_tests j v output)) _ (not_filled output) (append_stop held rest (not_zero r) e)

  pub write_filed : (r : Result ℕ Refusal) (after : List ℕ) → Passed held →
      fill_outcome r after ≡ filed (file_with j.modulus (job_cell j) j.a.factors j.b.factors j.c.factors v) output →
      fill_outcome r after ≡ write_step j v output
  unfolding write_step rest job_file job_records
  write_filed r after p e = e ∙ ap (told (job_file j v) output) (append_pass held rest p refl)

-- ---- its length

module _ (j : Job) (v : List ℕ) where
  -- the tests are those of a synthesis with a scratch that is long enough
  pub size_first : first (synthesis_tests j v scratch_length) ≡ first (held_tests j v)
  unfolding first
  size_first = refl

  pub size_refused : (r : Refusal) → number_of r ≡ first (held_tests j v) → not_sized (number_of r) ≡ length_step j v
  unfolding length_step
  size_refused r e = fails r (first (held_tests j v)) (bytes (length (job_file j v))) not_sized e

  pub size_told : {n : ℕ} → 0 ≡ first (held_tests j v) → n ≡ length (file_with j.modulus (job_cell j) j.a.factors j.b.factors j.c.factors v) → bytes n ≡ length_step j v
  unfolding length_step job_file job_records
  size_told e q = ap bytes q ∙ ap (λ (k : ℕ). accepted k (bytes (length (job_file j v))) not_sized) e

-- the volume of a valid job is one that an opening admits
pub valid_volume : (j : Job) → valid_job j ≡ true → volume_length (group_in j) (halves j) ≤ 16777216
valid_volume j e =
    let p = passed (axis_tests (header_of j)) tt (valid_parts j e).1 in
    ltb-false 16777216 (volume_length (group_in j) (halves j)) p.1.1.1.0
