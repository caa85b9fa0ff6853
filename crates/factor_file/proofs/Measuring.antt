-- Refusal 18 is the last test's alone: the output is shorter than the file. And what the length that is asked for says of the writer.
use mathlib.Core.Path.{◌≡◌, refl, sym, ◌∙◌, ap}
use mathlib.Core.Bool.{Bool, true, false}
use mathlib.Core.List.{List, [], ◌∷◌}
use Prim.Native.Nat.{ℕ, zero, suc, ◌<◌, ◌≤◌}
use native.Mathlib.Omega.{arith}
use lib.ListN.{length}
use borrow.Author.Tests.{ltb-true}
use borrow.Author.Tests.{lt-ltb, le-ltb}
use Rattle.refusals.specs.Refusals.{Test, ◌⇒◌, first, accepted}
use Rattle.refusals.proofs.Tests.{stop, pass, none, passed, append_stop, append_pass}
use Rattle.job.specs.declared.Job.{Job}
use Rattle.output.specs.Output.{not_written, filled, not_filled}
use Rattle.factor_file.specs.File.{job_file, room_tests, held_tests, write_tests, write_step, Sized, bytes, not_sized, length_step}
use Rattle.factor_file.specs.Measured.{Measured, MeasuredBefore}
use Rattle.factor_file.proofs.writer.Files.{told}

-- a number that is not that of the first test is that of another
passed_over : (b : Bool) (k : ℕ) (ts : List Test) (n : ℕ) → (k ≡ n → ⊥) → first (b ⇒ k ∷ ts) ≡ n → first ts ≡ n
unfolding first
passed_over true k ts n u e = absurd (u e)
passed_over false k ts n u e = e

held : (b : Bool) (k : ℕ) → first (b ⇒ suc k ∷ []) ≡ suc k → b ≡ true
unfolding first
held true k e = refl
held false k e = absurd (omega (arith, e))

told_number : (file output : List ℕ) (k n : ℕ) → (told file output k).answer ≡ not_written n → k ≡ n
told_number file output zero n e = let z : ◌≡◌ {A = ℕ} 0 1 = cc in absurd (omega arith)
told_number file output (suc k) n e = cc

-- the room is less than the size
no_room : (size room : ℕ) → first (room_tests size room) ≡ 18 → room < size
no_room size room e = omega (arith, ltb-true room size (held _ 17 e))

-- ---- the length that is asked for

-- what the number of the first test makes of a size
abbrev sized : (size k : ℕ) → Sized
sized size k = accepted k (bytes size) not_sized

sized_bytes : (size k n : ℕ) → sized size k ≡ bytes n → (0 ≡ k) × (size ≡ n)
sized_bytes size zero n e = (refl, cc)
sized_bytes size (suc k) n e = let z : ◌≡◌ {A = ℕ} 0 1 = cc in absurd (omega arith)

sized_number : (size k n : ℕ) → sized size k ≡ not_sized n → (n ≡ k) × (n ≡ 0 → ⊥)
sized_number size zero n e = let z : ◌≡◌ {A = ℕ} 0 1 = cc in absurd (omega arith)
sized_number size (suc k) n e = let q : suc k ≡ n = cc in (sym q, λ z. omega (arith, q, z))

-- a number that is not 0 is told as it is
told_refused : (file output : List ℕ) (n : ℕ) → (n ≡ 0 → ⊥) → told file output n ≡ not_filled output n
told_refused file output zero u = absurd (u refl)
told_refused file output (suc n) u = refl

module _ (j : Job) (v output : List ℕ) (n : ℕ) where
  abbrev size : ℕ
  size = length (job_file j v)

  abbrev room : List Test
  room = room_tests size (length output)

  sizes : length_step j v ≡ bytes n → (0 ≡ first (held_tests j v)) × (size ≡ n)
  unfolding length_step
  sizes e = sized_bytes size (first (held_tests j v)) n e

  -- the tests before the last pass
  on_room : length_step j v ≡ bytes n → {k : ℕ} → k ≡ first room → k ≡ first (write_tests j v output)
  on_room e h = append_pass (held_tests j v) room (passed (held_tests j v) tt (sizes e).0) h

  enough : length_step j v ≡ bytes n → n ≤ length output → write_step j v output ≡ filled (job_file j v) output
  unfolding write_step
  enough e h = ap (told (job_file j v) output) (sym (on_room e (pass 18 _ (le-ltb (length output) size (omega (arith, (sizes e).1, h))) none)))

  fewer : length_step j v ≡ bytes n → length output < n → write_step j v output ≡ not_filled output 18
  unfolding write_step
  fewer e h = ap (told (job_file j v) output) (sym (on_room e (stop _ (lt-ltb (length output) size (omega (arith, (sizes e).1, h))))))

  alike : length_step j v ≡ not_sized n → write_step j v output ≡ not_filled output n
  unfolding write_step length_step
  alike e =
      let q = sized_number size (first (held_tests j v)) n e in
      ap (told (job_file j v) output) (sym (append_stop (held_tests j v) room q.1 q.0)) ∙ told_refused (job_file j v) output n q.1

pub measured : Measured
unfolding write_step
measured = record { short = λ j v output e. go j v output (told_number (job_file j v) output (first (write_tests j v output)) 18 e) }
  where
    go : (j : Job) (v output : List ℕ) → first (write_tests j v output) ≡ 18 → length output < length (job_file j v)
    go j v output e =
        no_room (length (job_file j v)) (length output)
        (passed_over _ 14 _ 18 (λ u. omega (arith, u))
        (passed_over _ 7 _ 18 (λ u. omega (arith, u))
        (passed_over _ 6 _ 18 (λ u. omega (arith, u))
        (passed_over _ 23 _ 18 (λ u. omega (arith, u))
        (passed_over _ 25 _ 18 (λ u. omega (arith, u)) e)))))

pub measured_before : MeasuredBefore
measured_before = record { enough = enough; fewer = fewer; alike = alike }
