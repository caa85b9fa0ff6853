-- The outcome of the opening of a file: refused by its shape, refused by its header, or what its records lead to.
use mathlib.Core.Path.{◌≡◌, refl, sym, ◌∙◌, ap, subst}
use mathlib.Core.List.{List, []}
use Prim.Native.Nat.{ℕ, zero, suc}
use native.Mathlib.Omega.{arith}
use lib.ListN.{length, replicate, length-replicate}
use borrow.Author.Tests.{not-false, leb-false, eqb-true}
use Rattle.refusals.specs.declared.Refusal.{Refusal}
use Rattle.refusals.specs.Refusals.{number_of, first, accepted}
use Rattle.refusals.proofs.Tests.{fails, passed}
use Rattle.numbers.specs.Value.{IsModulus}
use Rattle.numbers.proofs.ModulusCases.{tested_modulus}
use Rattle.job.specs.declared.Job.{Job}
use Rattle.std.specs.Prelude.{Ok, Err}
use Rattle.job.specs.Job.{Header, collecting, job_of, job_cell, group_in, halves, header_of, opened, not_opened, OpenOutcome, open_tests, open_step}
use Rattle.job.proofs.Jobs.{opened_valid, valid_sizes}
use Rattle.job.proofs.check.Openings.{header_passed}
use Rattle.file_format.specs.declared.FileRecord.{FileRecord}
use Rattle.job.specs.Answers.{open_outcome}
use Rattle.factor_file.specs.declared.FileRefusal.{FileRefusal}
use Rattle.factor_file.specs.File.{modulus_in, header_in, records_in, shape_tests, Judgement, taken, refused_at, judged, record_all_on, feed, file_step}
use Rattle.factor_file.specs.Marks.{IsEmpty}
use Rattle.factor_file.specs.Answers.{file_outcome}

-- the modulus and the header that were opened are those of the file
pub opened_by : (file v : List ℕ) {μ : ℕ} {h : Header} {o : OpenOutcome} → o ≡ open_step μ h 0 v → μ ≡ modulus_in file → h ≡ header_in file → o ≡ open_step (modulus_in file) (header_in file) 0 v
opened_by file v e m p = e ∙ (λ i. open_step (m i) (p i) 0 v)

module _ (file v : List ℕ) where
  pub shape_refused : (r : Refusal) → number_of r ≡ first (shape_tests file) → file_outcome (Err (record { refusal = r; place = 0 })) v ≡ file_step file v
  unfolding file_step
  shape_refused r e = fails r _ _ (λ n. record { answer = not_opened n 0; volume = v }) e

  module _ (v' : List ℕ) (sound : 0 ≡ first (shape_tests file)) where
    pub header_refused : (r : Refusal) → open_outcome (Err r) v' ≡ open_step (modulus_in file) (header_in file) 0 v → file_outcome (Err (record { refusal = r; place = 0 })) v' ≡ file_step file v
    unfolding file_step
    header_refused r e = rw (← sound, ← e) e

    pub records_decide : (j : Job) → open_outcome (Ok j) v' ≡ open_step (modulus_in file) (header_in file) 0 v → feed (records_in file) j v' ≡ file_step file v
    unfolding file_step
    records_decide j e = rw (← sound, ← e) (ap (λ (o : OpenOutcome). feed (records_in file) j o.volume) e)

-- an opening with kind 0 that gives a job leaves a volume of zeros, as long as the job's cell asks for
pub opened_empty : (μ : ℕ) (h : Header) (v v' : List ℕ) (j : Job) → open_outcome (Ok j) v' ≡ open_step μ h 0 v → IsEmpty (job_cell j) v' × IsModulus j.modulus
unfolding open_step
opened_empty μ h v v' j e = by (first (open_tests μ h 0 v)) refl e
  where
    by : (n : ℕ) → first (open_tests μ h 0 v) ≡ n → open_outcome (Ok j) v' ≡ accepted {O = OpenOutcome} n (record { answer = opened (job_of μ h collecting); volume = replicate (length v) 0 }) (λ n. record { answer = not_opened n 0; volume = v }) → IsEmpty (job_cell j) v' × IsModulus j.modulus
    by zero q e =
        let t = passed (open_tests μ h 0 v) tt (sym q) in
        let a : opened j ≡ opened (job_of μ h collecting) = ap (λ (o : OpenOutcome). o.answer) e in
        let is : job_of μ h collecting ≡ j = cc in
        let w : v' ≡ replicate (length v) 0 = ap (λ (o : OpenOutcome). o.volume) e in
        let n : length v' ≡ length v = ap length w ∙ length-replicate (length v) 0 in
        let valid = opened_valid μ h collecting (not-false _ t.1.0) (leb-false _ _ t.0) (header_passed μ h 0 v (sym q)) (omega arith) in
        subst (λ j. IsEmpty (job_cell j) v' × IsModulus j.modulus) is (
          record {
            volume = record { sizes = valid_sizes (job_of μ h collecting) valid; long = n ∙ eqb-true _ _ (not-false _ t.1.1.1.1.1.1.1.0) };
            zeros = w ∙ ap (λ n. replicate n 0) (sym n);
          },
          tested_modulus μ (not-false _ t.1.0),
        )
    by (suc n) q e = let a : opened j ≡ not_opened (suc n) 0 = ap (λ (o : OpenOutcome). o.answer) e in let z : ◌≡◌ {A = ℕ} 0 1 = cc in absurd (omega arith)

-- ---- what is left once the records are judged, on a volume of zeros

abbrev pub outcome : List FileRecord → Job → List ℕ → Judgement → OpenOutcome
outcome cs j v b = elim b [ taken ↦ record { answer = opened j; volume = record_all_on (group_in j) (halves j) j.modulus cs v } | refused_at n place ↦ record { answer = not_opened n place; volume = replicate (length v) 0 } ]

module _ (cs : List FileRecord) (j : Job) (v : List ℕ) {w : List ℕ} where
  pub feed_refused : v ≡ replicate (length v) 0 → w ≡ v → (e : FileRefusal) → refused_at (number_of e.refusal) e.place ≡ judged j.modulus j.group (header_of j).lengths [] cs → file_outcome (Err e) w ≡ feed cs j v
  unfolding feed
  feed_refused z k e f = ap (λ (w : List ℕ). file_outcome (Err e) w) (k ∙ z) ∙ ap (outcome cs j v) f

  pub feed_taken : taken ≡ judged j.modulus j.group (header_of j).lengths [] cs → w ≡ record_all_on (group_in j) (halves j) j.modulus cs v → file_outcome (Ok j) w ≡ feed cs j v
  unfolding feed
  feed_taken f e = ap (λ (w : List ℕ). file_outcome (Ok j) w) e ∙ ap (outcome cs j v) f
