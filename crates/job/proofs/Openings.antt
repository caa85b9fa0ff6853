-- The outcome of an opening, refused or accepted.
use mathlib.Core.Path.{◌≡◌, refl, ◌∙◌, ap}
use mathlib.Core.List.{List}
use native.Mathlib.Omega.{arith}
use Prim.Native.Nat.{ℕ, zero, suc}
use lib.ListN.{length, replicate}
use borrow.Author.Tests.{eq-eqb, ne_eqb}
use Rattle.refusals.specs.declared.Refusal.{Refusal}
use Rattle.refusals.specs.Refusals.{number_of, first, accepted}
use Rattle.refusals.proofs.Tests.{fails}
use Rattle.job.specs.declared.Job.{Job}
use Rattle.std.specs.Prelude.{Ok, Err}
use Rattle.job.specs.Job.{Header, job_of, collecting, map_held, open_tests, open_step, OpenOutcome, opened, not_opened}
use Rattle.job.specs.Answers.{open_outcome}

module _ (m : ℕ) (h : Header) (kind : ℕ) (v : List ℕ) where
  pub open_refused : (r : Refusal) → number_of r ≡ first (open_tests m h kind v) → open_outcome (Err r) v ≡ open_step m h kind v
  unfolding open_step
  open_refused r e = fails r _ _ (λ n. record { answer = not_opened n 0; volume = v }) e

  pub open_collects : (j : Job) (v' : List ℕ) → 0 ≡ first (open_tests m h kind v) → kind ≡ 0 → j ≡ job_of m h collecting → v' ≡ replicate (length v) 0 → open_outcome (Ok j) v' ≡ open_step m h kind v
  unfolding open_step
  open_collects j v' e k s z = rw (← e, s, z, eq-eqb kind 0 k)

  pub open_map : (j : Job) → 0 ≡ first (open_tests m h kind v) → (kind ≡ 0 → ⊥) → j ≡ job_of m h map_held → open_outcome (Ok j) v ≡ open_step m h kind v
  unfolding open_step
  open_map j e k s = rw (← e, s, ne_eqb kind 0 k)

-- an opening to collect that gave a job: no test held, and the job is that of the modulus number and the header
pub opened_collecting : (m : ℕ) (h : Header) (v : List ℕ) {j : Job} {v' : List ℕ} → open_step m h 0 v ≡ record { answer = opened j; volume = v' } → (0 ≡ first (open_tests m h 0 v)) × (j ≡ job_of m h collecting)
unfolding open_step
opened_collecting m h v e = by_number (first (open_tests m h 0 v)) (job_of m h collecting) (replicate (length v) 0) e
  where
    by_number : (n : ℕ) (k : Job) (w : List ℕ) {j : Job} {v' : List ℕ} → ◌≡◌ {A = OpenOutcome} (accepted n (record { answer = opened k; volume = w }) (λ n. record { answer = not_opened n 0; volume = v })) (record { answer = opened j; volume = v' }) → (0 ≡ n) × (j ≡ k)
    by_number zero k w e = let a = ap (λ (o : OpenOutcome). o.answer) e in (refl, cc)
    by_number (suc n) k w e =
        let a = ap (λ (o : OpenOutcome). o.answer) e in
        let z : ◌≡◌ {A = ℕ} 0 1 = cc in
        absurd (omega arith)
