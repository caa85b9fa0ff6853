-- Refusal 25. What a list of calls leaves of an accepted start is a valid job; and every valid job is left by a list of calls from an opening on:
-- one of kind 0 with the job's own header collects, a synthesis after it holds the map, and an analysis after that holds the factors.
use mathlib.Core.Path.{◌≡◌, refl, sym, ap, ◌∙◌, subst}
use mathlib.Core.Logic.{◌↔◌}
use mathlib.Core.Bool.{Bool, true, false, not}
use mathlib.Core.List.{List, [], ◌∷◌}
use Prim.Native.Nat.{ℕ, zero, suc, ◌≤◌, ◌<◌}
use native.Mathlib.Omega.{arith}
use lib.ListN.{length, replicate, length-replicate}
use lib.Dec.{T}
use borrow.Author.Tests.{le-ltb, eq-eqb}
use Rattle.refusals.specs.Refusals.{Test, ◌⇒◌, first, accepted}
use Rattle.refusals.proofs.Tests.{pass, none}
use Rattle.lengths.specs.Lengths.{scratch_length, cleared}
use Rattle.job.specs.declared.Job.{Job}
use Rattle.job.specs.Job.{Header, needed, factors_held, map_held, header_of, with_state, valid_job, open_tests, Said, done, density, factor, power, refused, Outcome, Worked, unchanged, record_step, synthesised, synthesis_step, analysed, analysis_step, point_step, factor_step, map_power_step, factor_power_step}
use Rattle.job.specs.TestSteps.{synthesis_tests, analysis_tests}
use Rattle.job.proofs.check.Openings.{volume_collects, volume_decides}
use Rattle.job.proofs.Jobs.{job_of_header, valid_parts, valid_with}
use Rattle.model.specs.Model.{Model, Call, recording, synthesis, analysis, read_point, read_factor, read_map_power, read_factor_power, model_tests, model_next, model_after, model_job, model_volume, in_state, zero_model}
use Rattle.demands.specs.Demands.{opening, step, Ran, model_end, Reachable, ImpossibleExactly}
use Rattle.model.proofs.Sound.{LawfulModel}
use Rattle.refusals.proofs.Orders.{others, other_first}
use Rattle.demands.proofs.Corollaries.{runs}
use Rattle.demands.proofs.Lists.{every_list, end_sound}
use Rattle.demands.proofs.Openings.{opening_sound, opening_gives}
use Rattle.demands.proofs.Starts.{accepted_start}

-- ---- what is reached is valid

pub reached_valid : (j : Job) → Reachable j → valid_job j ≡ true
reached_valid j (μ, s, i, v, l, gives, leaves) =
    let (m, b, sound, ei, ev) = accepted_start s i v gives in
    ap valid_job (sym leaves ∙ ap (λ (r : Ran). r.job) (runs m sound i v ei ev l)) ∙ (end_sound m sound l).valid

-- ---- what is valid is reached

module _ (μ : ℕ) (h : Header) (scratch : List ℕ) (long : scratch_length ≤ length scratch) where
  -- the calls that bring the opened job to a state
  abbrev calls_to : ℕ → List Call
  calls_to zero = []
  calls_to (suc zero) = synthesis scratch ∷ analysis scratch ∷ []
  calls_to (suc (suc s)) = synthesis scratch ∷ []

  after : (m : Model μ) (c : Call) → 0 ≡ first (model_tests m c) → model_after m c ≡ model_next m c
  unfolding model_after
  after m c e = λ i. accepted (sym e i) (model_next m c) (λ n. m)

  to_map : model_after (zero_model μ h) (synthesis scratch) ≡ in_state (zero_model μ h) map_held
  to_map = after (zero_model μ h) (synthesis scratch) (pass 23 _ refl (pass 13 _ (le-ltb _ _ long) none))

  to_factors : model_after (in_state (zero_model μ h) map_held) (analysis scratch) ≡ in_state (zero_model μ h) factors_held
  to_factors = after (in_state (zero_model μ h) map_held) (analysis scratch) (pass 22 _ refl (pass 13 _ (le-ltb _ _ long) none))

  state_reached : (s : ℕ) → s < 3 → model_end (zero_model μ h) (calls_to s) ≡ in_state (zero_model μ h) s
  unfolding model_end
  state_reached zero l = refl
  state_reached (suc zero) l = ap (λ (m : Model μ). model_after m (analysis scratch)) to_map ∙ to_factors
  state_reached (suc (suc zero)) l = to_map
  state_reached (suc (suc (suc s))) l = absurd (omega arith)

module _ (j : Job) (valid : valid_job j ≡ true) where
  abbrev zeros : List ℕ
  zeros = replicate (needed (header_of j)) 0

  -- no test refuses an opening of kind 0 with the job's header
  passes : 0 ≡ first (open_tests j.modulus (header_of j) 0 zeros)
  passes =
      let t = valid_parts j valid in
      volume_decides j.modulus (header_of j) 0 zeros t.0 t.3 (omega arith) t.1
      (volume_collects j.modulus j.group (header_of j).lengths 0 zeros (eq-eqb _ _ (length-replicate (needed (header_of j)) 0)) (λ e. omega arith))

  pub valid_reached : Reachable j
  valid_reached =
      let m : Model j.modulus = zero_model j.modulus (header_of j) in
      let scratch : List ℕ = replicate scratch_length 0 in
      let long : scratch_length ≤ length scratch = rw length-replicate (omega arith) in
      let sound : LawfulModel m = opening_sound j.modulus (header_of j) 0 zeros passes in
      let l = calls_to j.modulus (header_of j) scratch long j.state in (
        j.modulus,
        opening (header_of j) 0 zeros,
        model_job m,
        model_volume m,
        l,
        opening_gives j.modulus (header_of j) 0 zeros passes,
        ap (λ (r : Ran). r.job) (every_list m sound l) ∙ ap model_job (state_reached j.modulus (header_of j) scratch long j.state (valid_parts j valid).2) ∙ job_of_header j,
      )

-- ---- every call tests 25 first, and no other test has that number

-- an accepted call does not say that it is refused
abbrev says_done : Said → Bool
says_done done = true
says_done (density n) = true
says_done (factor x y) = true
says_done (power n) = true
says_done (refused n) = false

true_not_false : true ≡ false → ⊥
true_not_false e = subst T e tt

module _ (j : Job) (v : List ℕ) (o : Outcome) where
  refused_number : says_done o.answer ≡ true → (n k : ℕ) → (accepted n o (unchanged j v)).answer ≡ refused k → n ≡ k
  refused_number a zero k e = absurd (true_not_false (sym a ∙ ap says_done e))
  refused_number a (suc n) k e = cc

  refused_invalid : says_done o.answer ≡ true → (ts : List Test) → T (others 25 ts) → (valid : Bool) → ((accepted (first (not valid ⇒ 25 ∷ ts)) o (unchanged j v)).answer ≡ refused 25) ↔ (valid ≡ false)
  unfolding first
  refused_invalid a ts t true = (λ e. absurd (other_first 24 ts t (refused_number a (first ts) 25 e)), λ e. absurd (true_not_false e))
  refused_invalid a ts t false = (λ e. refl, λ e. refl)

  kept_job : (P : Job → Type 0) (n : ℕ) → P j → P o.job → P (accepted n o (unchanged j v)).job
  kept_job P zero p q = q
  kept_job P (suc n) p q = p

  -- what a call answers and leaves that is lent a scratch too
  lent : (n : ℕ) (s t : List ℕ) → (accepted {O = Worked} n (record { outcome = o; scratch = s }) (λ n. record { outcome = unchanged j v n; scratch = t })).outcome ≡ accepted n o (unchanged j v)
  lent zero s t = refl
  lent (suc n) s t = refl

abbrev rest : List Test → List Test
rest [] = []
rest (t ∷ ts) = ts

-- every call in one form: the tests after 25, and the outcome where none holds
record Tested (j : Job) (v : List ℕ) (c : Call) : Type 0 where
  tests : List Test
  result : Outcome
  other : T (others 25 tests)
  says : says_done result.answer ≡ true
  kept : valid_job j ≡ true → valid_job result.job ≡ true
  is : step j v c ≡ accepted (first (not (valid_job j) ⇒ 25 ∷ tests)) result (unchanged j v)

tested : (j : Job) (v : List ℕ) (c : Call) → Tested j v c
unfolding record_step synthesis_step analysis_step point_step factor_step map_power_step factor_power_step
tested j v (recording k x y) = record { tests = _; result = _; other = tt; says = refl; kept = λ e. e; is = refl }
tested j v (synthesis scratch) = let o : Outcome = record { answer = done; job = with_state j map_held; volume = synthesised j v } in
    record { tests = rest (synthesis_tests j v (length scratch)); result = o; other = tt; says = refl; kept = λ e. valid_with j map_held e (omega arith); is = lent j v o (first (synthesis_tests j v (length scratch))) (cleared scratch) scratch }
tested j v (analysis scratch) = let o : Outcome = record { answer = done; job = with_state j factors_held; volume = analysed j v } in
    record { tests = rest (analysis_tests j v (length scratch)); result = o; other = tt; says = refl; kept = λ e. valid_with j factors_held e (omega arith); is = lent j v o (first (analysis_tests j v (length scratch))) (cleared scratch) scratch }
tested j v (read_point x) = record { tests = _; result = _; other = tt; says = refl; kept = λ e. e; is = refl }
tested j v (read_factor k) = record { tests = _; result = _; other = tt; says = refl; kept = λ e. e; is = refl }
tested j v read_map_power = record { tests = _; result = _; other = tt; says = refl; kept = λ e. e; is = refl }
tested j v read_factor_power = record { tests = _; result = _; other = tt; says = refl; kept = λ e. e; is = refl }

-- ---- refusal 25 exactly of the jobs that are not reached

invalid_unreached : (j : Job) → (valid_job j ≡ false) ↔ (Reachable j → ⊥)
invalid_unreached j = (λ e r. true_not_false (sym (reached_valid j r) ∙ e), λ f. go (valid_job j) (λ e. f (valid_reached j e)))
  where
    go : (b : Bool) → (b ≡ true → ⊥) → b ≡ false
    go true f = absurd (f refl)
    go false f = refl

refused_unreached : (j : Job) (v : List ℕ) (c : Call) → ((step j v c).answer ≡ refused 25) ↔ (Reachable j → ⊥)
refused_unreached j v c =
    let t = tested j v c in
    let r = refused_invalid j v t.result t.says t.tests t.other (valid_job j) in
    let u = invalid_unreached j in
    let e = ap (λ (o : Outcome). o.answer) t.is in
    (λ s. u.0 (r.0 (sym e ∙ s)), λ f. e ∙ r.1 (u.1 f))

call_keeps : (j : Job) (v : List ℕ) (c : Call) → valid_job j ≡ true → valid_job (step j v c).job ≡ true
call_keeps j v c valid =
    let t = tested j v c in
    subst (λ (o : Outcome). valid_job o.job ≡ true) (sym t.is) (kept_job j v t.result (λ (i : Job). valid_job i ≡ true) (first (not (valid_job j) ⇒ 25 ∷ t.tests)) valid (t.kept valid))

pub impossible_exactly : ImpossibleExactly
impossible_exactly = record {
  exactly = λ j. (valid_reached j, reached_valid j);
  refuses = refused_unreached;
  keeps = λ j v c r. valid_reached (step j v c).job (call_keeps j v c (reached_valid j r));
}
