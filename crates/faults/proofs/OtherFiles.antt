-- A file that its shape or its opening refuses, or that is accepted, has no record at fault.
use mathlib.Core.Path.{◌≡◌, refl, sym, ◌∙◌, ap}
use mathlib.Core.List.{List, []}
use Prim.Native.Nat.{ℕ, zero, suc}
use native.Mathlib.Omega.{arith}
use lib.ListN.{length}
use Rattle.refusals.specs.Refusals.{first, accepted}
use Rattle.header.specs.Header.{needed}
use Rattle.header.specs.Cells.{header_cell}
use Rattle.job.specs.declared.Job.{Job}
use Rattle.job.specs.Job.{collecting, job_of, opened, not_opened, Opening, OpenOutcome, open_step}
use Rattle.factor_file.specs.File.{records_in, modulus_in, header_in, shape_tests, Judgement, taken, refused_at, feed, file_step}
use Rattle.faults.specs.Faults.{header_tests, record_faults, faults_in}
use Rattle.faults.specs.Fewest.{judged_under}
use Rattle.faults.specs.Others.{OthersGiveNone}
use Rattle.faults.proofs.FaultLaws.{refused_by, faults_by, header_sound, long_opened}
use Rattle.faults.proofs.FewestOpenings.{answer_by, opening, file_answer}

-- ---- two answers

not_both : {j : Job} {number place : ℕ} → opened j ≡ not_opened number place → ⊥
not_both e = let z : ◌≡◌ {A = ℕ} 0 1 = cc in omega arith

all_taken : (i : Job) (b : Judgement) {j : Job} → answer_by i b ≡ opened j → b ≡ taken
all_taken i taken e = refl
all_taken i (refused_at n place) e = absurd (not_both (sym e))

module _ (file : List ℕ) where
  abbrev records : List ℕ
  records = record_faults (modulus_in file) (header_in file).group (header_in file).lengths (records_in file)

  abbrev header : ℕ
  header = first (header_tests (modulus_in file) (header_in file))

  shape_none : (first (shape_tests file) ≡ 0 → ⊥) → faults_in file ≡ []
  unfolding faults_in
  shape_none z = refused_by (first (shape_tests file)) (accepted header records (λ n. [])) (λ n. []) z

  -- it suffices that of a sound shape a sound header has none
  none_by : (0 ≡ first (shape_tests file) → 0 ≡ header → records ≡ []) → faults_in file ≡ []
  unfolding faults_in
  none_by f = by (first (shape_tests file)) header refl refl
    where
      by : (s t : ℕ) → s ≡ first (shape_tests file) → t ≡ header → accepted s (accepted t records (λ n. [])) (λ n. []) ≡ []
      by zero zero p q = f p q
      by zero (suc t) p q = refl
      by (suc s) t p q = refl

  opening_none : (v : List ℕ) → length v ≡ needed (header_in file) → (number place : ℕ) → (open_step (modulus_in file) (header_in file) 0 v).answer ≡ not_opened number place → faults_in file ≡ []
  opening_none v l number place e = none_by (λ shape sound. absurd (not_both (sym (ap (λ (o : OpenOutcome). o.answer) (opening (modulus_in file) (header_in file) sound v l)) ∙ e)))

  taken_none : 0 ≡ header → judged_under file (records_in file) ≡ taken → records ≡ []
  unfolding record_faults
  taken_none sound e =
      let by = faults_by (modulus_in file) (header_cell (header_in file)) file (header_sound (modulus_in file) (header_in file) sound).sizes in
      let none : by taken ≡ [] = refl in
      ap by e ∙ none

  abbrev after : OpenOutcome → OpenOutcome
  after o = elim o.answer [ opened j ↦ feed (records_in file) j o.volume | not_opened n place ↦ o ]

  -- an outcome with which a job is opened is that of an opening
  after_opened : (a : Opening) (w : List ℕ) {j : Job} → (after (record { answer = a; volume = w })).answer ≡ opened j → (i : Job) × (a ≡ opened i)
  after_opened (opened i) w e = (i, refl)
  after_opened (not_opened n place) w e = absurd (not_both (sym e))

  file_opened : (v : List ℕ) (j : Job) → 0 ≡ first (shape_tests file) → (file_step file v).answer ≡ opened j → (i : Job) × ((open_step (modulus_in file) (header_in file) 0 v).answer ≡ opened i)
  unfolding file_step
  file_opened v j shape e =
      let o : OpenOutcome = open_step (modulus_in file) (header_in file) 0 v in
      after_opened o.answer o.volume (ap (λ n. (accepted {O = OpenOutcome} n (after o) (λ n. record { answer = not_opened n 0; volume = v })).answer) shape ∙ e)

  accepted_none : (v : List ℕ) (j : Job) → (file_step file v).answer ≡ opened j → faults_in file ≡ []
  accepted_none v j e = none_by (λ shape sound.
      let o = file_opened v j shape e in
      taken_none sound (all_taken (job_of (modulus_in file) (header_in file) collecting) _ (sym (file_answer file shape sound v (long_opened (modulus_in file) (header_in file) v o.0 o.1)) ∙ e)))

pub others_give_none : OthersGiveNone
others_give_none = record { shape = shape_none; opening = opening_none; accepted = accepted_none }
