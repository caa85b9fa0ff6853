-- A refused call changes nothing; the order in which entering and withdrawing refuse.
use mathlib.Core.Path.{◌≡◌, refl, sym, ap, ◌∙◌}
use mathlib.Core.Bool.{Bool, true, false, not, cond}
use mathlib.Core.List.{List, []}
use Prim.Native.Nat.{ℕ, zero, suc, ◌+◌, ◌≤◌, ◌<◌}
use native.Mathlib.Omega.{arith}
use lib.ListN.{length, get_or}
use borrow.Author.Tests.{not-true, lt-ltb, le-ltb}
use Rattle.refusals.specs.Refusals.{first, accepted}
use Rattle.refusals.proofs.Tests.{both}
use Rattle.header.specs.Header.{volume_limit}
use Rattle.job.specs.declared.Job.{Job}
use Rattle.job.specs.Job as Job
use Rattle.job.specs.Job.{Worked, valid_job, synthesis_step}
use Rattle.job.specs.TestSteps.{synthesis_tests}
use Rattle.job.proofs.Outcomes.{synthesis_accepted}
use Rattle.scheduler.specs.declared.Scheduler.{Scheduler}
use Rattle.scheduler.specs.Scheduler.{volume_of, free, running, held_in, valid_scheduler, is_lane, lane_at, is_free, Said, done, refused, Outcome, unchanged, enter_tests, enter_step, withdraw_tests, withdraw_step, turn_step, Call, entering, turning, withdrawing, step, nothing}
use Rattle.scheduler.specs.Schedules.{RefusedInOrder}
use Rattle.scheduler.proofs.Accepted.{Turn, turned_back, idling, serving, turn_cases, refused_done, refused_idle}
use Rattle.scheduler.proofs.Named.{said_taken}

-- ---- unchanged

module _ (s : Scheduler) (v scratch : List ℕ) (n : ℕ) where
  refused_leaves : (k : ℕ) (o : Outcome) → (o.answer ≡ refused n → ⊥) → (accepted k o (λ m. unchanged s v scratch (refused m))).answer ≡ refused n
      → accepted k o (λ m. unchanged s v scratch (refused m)) ≡ unchanged s v scratch (refused n)
  refused_leaves zero o h e = absurd (h e)
  refused_leaves (suc k) o h e = ap (unchanged s v scratch) e

  turn_unchanged : (turn_step s v scratch).answer ≡ refused n → turn_step s v scratch ≡ unchanged s v scratch (refused n)
  turn_unchanged e = go (turn_cases s v scratch)
    where
      said : Outcome → Said
      said o = o.answer

      go : Turn s v scratch → turn_step s v scratch ≡ unchanged s v scratch (refused n)
      go (turned_back m q) = q ∙ ap (unchanged s v scratch) (sym (ap said q) ∙ e)
      go (idling q z) = absurd (refused_idle (sym e ∙ ap said q))
      go (serving i t) = absurd (said_taken i (get_or s.lanes i free) n (sym (ap said t.outcome) ∙ e))

call_unchanged : (s : Scheduler) (c : Call) (n : ℕ) → (step s c).answer ≡ refused n → step s c ≡ nothing s c (refused n)
unfolding enter_step withdraw_step
call_unchanged s (entering d j v scratch) n e = refused_leaves s v scratch n (first (enter_tests s d j v (length scratch))) _ (λ q. refused_done (sym q)) e
call_unchanged s (turning v scratch) n e = turn_unchanged s v scratch n e
call_unchanged s (withdrawing d) n e = refused_leaves s [] [] n (first (withdraw_tests s d)) _ (λ q. refused_done (sym q)) e

-- ---- the order

-- what a call says that is done or refused, by the number of the first test
abbrev told : ℕ → Said
told n = accepted n done refused

tells : (k : ℕ) (o : Outcome) (s : Scheduler) (v scratch : List ℕ) → o.answer ≡ done → (accepted k o (λ n. unchanged s v scratch (refused n))).answer ≡ told k
tells zero o s v scratch e = e
tells (suc k) o s v scratch e = refl

module _ (s : Scheduler) (d : ℕ) (j : Job) (v scratch : List ℕ) (e : valid_scheduler s ≡ true) where
  enter_says : {n : ℕ} → first (enter_tests s d j v (length scratch)) ≡ n → (enter_step s d j v scratch).answer ≡ told n
  unfolding enter_step
  enter_says q = tells (first (enter_tests s d j v (length scratch))) _ s v scratch refl ∙ ap told q

  lane_taken : is_free s d ≡ false → first (enter_tests s d j v (length scratch)) ≡ 31
  unfolding first
  lane_taken f = rw (e, f)

  module _ (f : is_free s d ≡ true) where
    job_impossible : valid_job j ≡ false → first (enter_tests s d j v (length scratch)) ≡ 25
    unfolding first
    job_impossible g = rw (e, f, g)

    module _ (g : valid_job j ≡ true) where
      over_capacity : volume_limit < held_in s.lanes + volume_of j → first (enter_tests s d j v (length scratch)) ≡ 32
      unfolding first
      over_capacity h = let l = lt-ltb _ _ h in rw (e, f, g, l)

      as_synthesis : held_in s.lanes + volume_of j ≤ volume_limit → first (enter_tests s d j v (length scratch)) ≡ first (synthesis_tests j v (length scratch))
      unfolding first
      as_synthesis h = let l = le-ltb _ _ h in rw (e, f, g, l)

-- a synthesis that is refused
synthesis_refuses : (j : Job) (v scratch : List ℕ) (n : ℕ) → (synthesis_step j v scratch).outcome.answer ≡ Job.refused n → told (first (synthesis_tests j v (length scratch))) ≡ refused n
unfolding synthesis_step
synthesis_refuses j v scratch n e = go (first (synthesis_tests j v (length scratch))) _ refl e
  where
    go : (k : ℕ) (o : Worked) → o.outcome.answer ≡ Job.done → (accepted k o (λ m. record { outcome = Job.unchanged j v m; scratch = scratch })).outcome.answer ≡ Job.refused n → told k ≡ refused n
    go zero o d e = let z : Job.done ≡ Job.refused n = sym d ∙ e in let y : ◌≡◌ {A = ℕ} 0 1 = cc in absurd (omega arith)
    go (suc k) o d e = let q : suc k ≡ n = cc in ap refused q

module _ (s : Scheduler) (d : ℕ) (e : valid_scheduler s ≡ true) where
  withdraw_number : first (withdraw_tests s d) ≡ cond (not (is_lane d)) 31 (cond (not (running (lane_at s d))) 33 0)
  unfolding first
  withdraw_number = rw e

  pub withdraw_says : (withdraw_step s d).answer ≡ told (cond (not (is_lane d)) 31 (cond (not (running (lane_at s d))) 33 0))
  unfolding withdraw_step
  withdraw_says = tells (first (withdraw_tests s d)) _ s [] [] refl ∙ ap told withdraw_number

  pub withdrawal_taken : (withdraw_step s d).answer ≡ refused 25 → ⊥
  withdrawal_taken q = go (not (is_lane d)) (not (running (lane_at s d))) (sym withdraw_says ∙ q)
    where
      go : (a b : Bool) → told (cond a 31 (cond b 33 0)) ≡ refused 25 → ⊥
      go true b e = let z : ◌≡◌ {A = ℕ} 31 25 = cc in omega arith
      go false true e = let z : ◌≡◌ {A = ℕ} 33 25 = cc in omega arith
      go false false e = refused_done (sym e)

  no_lane : is_lane d ≡ false → (withdraw_step s d).answer ≡ refused 31
  no_lane f = withdraw_says ∙ ap (λ b. told (cond (not b) 31 (cond (not (running (lane_at s d))) 33 0))) f

  of_lane : is_lane d ≡ true → {b : Bool} → running (lane_at s d) ≡ b → (withdraw_step s d).answer ≡ told (cond (not b) 33 0)
  of_lane f r = withdraw_says ∙ (λ i. told (cond (not (f i)) 31 (cond (not (r i)) 33 0)))

pub refused_in_order : RefusedInOrder
refused_in_order = record {
  unchanged = call_unchanged;
  lane_taken = λ s d j v scratch e f. enter_says s d j v scratch e (lane_taken s d j v scratch e f);
  job_impossible = λ s d j v scratch e f g. enter_says s d j v scratch e (job_impossible s d j v scratch e f g);
  over_capacity = λ s d j v scratch e f g h. enter_says s d j v scratch e (over_capacity s d j v scratch e f g h);
  as_synthesis = λ s d j v scratch e f g h.
      let q = enter_says s d j v scratch e (as_synthesis s d j v scratch e f g h) in
      (λ a. q ∙ ap told (sym (synthesis_accepted j v scratch a)), λ n r. q ∙ synthesis_refuses j v scratch n r);
  no_lane = no_lane;
  nothing_runs = λ s d e f. let t = both (is_lane d) (not (running (lane_at s d))) f in of_lane s d e t.0 (not-true _ t.1);
  withdrawn = λ s d e f r. of_lane s d e f r;
}
