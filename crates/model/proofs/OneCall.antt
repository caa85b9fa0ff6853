-- One call on the model's job and volume answers what the model says, and leaves the job and the volume of the model after it. Each call has three steps:
-- its tests and the model's have the same first, since the faults of job and volume do not arise; an accepted call leaves what the model says; and the model after it is sound.
use mathlib.Core.Path.{◌≡◌, refl, sym, ap, ◌∙◌}
use mathlib.Core.Bool.{Bool, true, false, not}
use mathlib.Core.List.{List, [], ◌∷◌}
use Prim.Native.Nat.{ℕ, zero, suc}
use native.Mathlib.Omega.{arith}
use lib.Dec.{eqb}
use lib.ListN.{length, get_or}
use borrow.Author.Tests.{not-false, lt-ltb, eq-eqb, eqb-true}
use Rattle.algebra.specs.cells.Cell.{every, Inside, at}
use Rattle.numbers.specs.Value.{prime, Value, value}
use Rattle.signed.specs.Integers.{centred}
use Rattle.slices.specs.Pairs.{all_below}
use Rattle.slices.proofs.Bounds.{all_below_below}
use Rattle.refusals.specs.Refusals.{Test, ◌⇒◌, first, accepted}
use Rattle.lengths.specs.Lengths.{cleared}
use Rattle.refusals.proofs.Tests.{not_t, pass, passed}
use Rattle.cell.specs.Volume.{volume_length, factors_in, density_place, numbers_read}
use Rattle.cell.specs.Consistency.{record_on, agrees_with_itself, orbit_free, same_value, consistent_factors, consistent_map}
use Rattle.job.specs.declared.Reflection.{Reflection}
use Rattle.job.specs.declared.GridPoint.{GridPoint}
use Rattle.job.specs.Job.{collecting, factors_held, map_held, valid_job, within, index, position, Said, Outcome, Worked, unchanged, record_tests, record_step, synthesised, synthesis_step, analysed, analysis_step, point_step, factor_step, map_power_step, factor_power_step, step}
use Rattle.job.specs.TestSteps.{synthesis_tests, analysis_tests, point_tests, factor_tests, map_power_tests, factor_power_tests}
use Rattle.power.specs.Power.{map_power, factor_power}
use Rattle.model.specs.Model.{Model, group, half, factor_of, Call, recording, synthesis, analysis, read_point, read_factor, read_map_power, read_factor_power, model_tests, model_says, model_next, model_said, model_after, in_state, model_volume, model_job}
use Rattle.job.proofs.Jobs.{valid_with}
use Rattle.model.proofs.Sound.{LawfulModel, holds_map, holds_factors, model_length, model_below, within_inside, factors_pass, factor_read, orbit_zero, lawful_recorded, recorded_packed, map_passes, density_read, map_power_read, factor_power_read, synthesis_gives, analysis_gives}

-- ---- tests

-- the same test first on both sides, and the rest where it does not hold
pub same_next : (b : Bool) (n : ℕ) (ts us : List Test) → (b ≡ false → first ts ≡ first us) → first (b ⇒ n ∷ ts) ≡ first (b ⇒ n ∷ us)
unfolding first
same_next true n ts us f = refl
same_next false n ts us f = f refl

-- a test that holds everywhere
all_true : {S : Type 0} (P : S → Bool) → ((x : S) → P x ≡ true) → (l : List S) → every l P ≡ true
unfolding every
all_true P f [] = refl
all_true P f (x ∷ l) = rw (f x) (all_true P f l)

-- ---- outcomes

-- what the model says of a call: the answer, and job and volume after it
abbrev pub result : {μ : ℕ} → Said → Model μ → Outcome
result s m = record { answer = s; job = model_job m; volume = model_volume m }

module _ {μ : ℕ} (m : Model μ) (c : Call) where
  -- a call with the model's tests is the model's if it is where it is accepted ..
  agrees : (n : ℕ) (o : Outcome) → first (model_tests m c) ≡ n → (0 ≡ first (model_tests m c) → o ≡ result (model_says m c) (model_next m c)) → accepted n o (unchanged (model_job m) (model_volume m)) ≡ result (model_said m c) (model_after m c)
  unfolding model_said model_after
  agrees n o e h = rw (← e) (go (first (model_tests m c)) h)
    where
      go : (n : ℕ) → (0 ≡ n → o ≡ result (model_says m c) (model_next m c)) → accepted n o (unchanged (model_job m) (model_volume m)) ≡ result (accepted n (model_says m c) Said.refused) (accepted n (model_next m c) (λ n. m))
      go zero h = h refl
      go (suc n) h = refl

  -- .. a call that is lent a scratch too ..
  agrees_lent : (n : ℕ) (o : Outcome) (s t : List ℕ) → first (model_tests m c) ≡ n → (0 ≡ first (model_tests m c) → o ≡ result (model_says m c) (model_next m c)) →
      (accepted {O = Worked} n (record { outcome = o; scratch = s }) (λ n. record { outcome = unchanged (model_job m) (model_volume m) n; scratch = t })).outcome ≡ result (model_said m c) (model_after m c)
  agrees_lent n o s t e h = outcome_of_lem n ∙ agrees n o e h
    where
      outcome_of_lem : (n : ℕ) → (accepted {O = Worked} n (record { outcome = o; scratch = s }) (λ n. record { outcome = unchanged (model_job m) (model_volume m) n; scratch = t })).outcome ≡ accepted n o (unchanged (model_job m) (model_volume m))
      outcome_of_lem zero = refl
      outcome_of_lem (suc n) = refl

  -- .. and leaves the model sound if it does so where it is accepted
  stays_sound : LawfulModel m → (0 ≡ first (model_tests m c) → LawfulModel (model_next m c)) → LawfulModel (model_after m c)
  unfolding model_after
  stays_sound sound h = go (first (model_tests m c)) h
    where
      go : (n : ℕ) → (0 ≡ n → LawfulModel (model_next m c)) → LawfulModel (accepted n (model_next m c) (λ n. m))
      go zero h = h refl
      go (suc n) h = sound

module _ {μ : ℕ} (m : Model μ) (sound : LawfulModel m) where
  -- ---- the faults that do not arise

  no_25 : not (valid_job (model_job m)) ≡ false
  no_25 = not_t _ sound.valid

  no_6 : not (eqb (length (model_volume m)) (volume_length (group m) (half m))) ≡ false
  no_6 = not_t _ (eq-eqb _ _ (model_length m))

  no_7 : not (all_below (prime μ) (model_volume m)) ≡ false
  no_7 = not_t _ (all_below_below (prime μ) (model_volume m) (model_below m))

  factors_no_14 : eqb m.state map_held ≡ false → not (consistent_factors (group m) (half m) μ (model_volume m)) ≡ false
  factors_no_14 s = rw (holds_factors m s) (not_t _ (factors_pass m sound))

  map_no_14 : eqb m.state map_held ≡ true → not (consistent_map (group m) (half m) (model_volume m)) ≡ false
  map_no_14 s = rw (holds_map m s) (not_t _ (map_passes m sound))

  -- ---- a record

  not_map : eqb m.state collecting ≡ true → eqb m.state map_held ≡ false
  not_map s = rw (eqb-true m.state collecting s) refl

  record_tests_lem : (k : Reflection) (x y : ℕ) → first (model_tests m (recording k x y)) ≡ first (record_tests (model_job m) (index k) x y (model_volume m))
  record_tests_lem k x y =
      pass 25 _ no_25
      (same_next _ 21 _ _ (λ s. same_next _ 10 _ _ (λ w. same_next _ 7 _ _ (λ b. same_next _ 12 _ _ (λ a.
      pass 6 _ no_6 (ap (λ b. first (not b ⇒ 24 ∷ [])) (occupied (not-false _ s) (not-false _ w))))))))
    where
      occupied : eqb m.state collecting ≡ true → within m.header.lengths (index k) ≡ true → same_value (factor_of m (index k)) (value μ 0 0) ≡ orbit_free (group m) (half m) (model_volume m) (index k)
      occupied s w = rw (holds_factors m (not_map s)) (sym (orbit_zero m sound (index k) (within_inside m sound (index k) w)))

  module _ (k : Reflection) (x y : ℕ) (e : 0 ≡ first (model_tests m (recording k x y))) where
    factors_stand : eqb m.state map_held ≡ false
    factors_stand = not_map (not-false _ (passed (model_tests m (recording k x y)) tt e).0)

    record_inside : Inside (half m) (index k)
    record_inside = within_inside m sound (index k) (not-false _ (passed (model_tests m (recording k x y)) tt e).1.0)

    record_agrees : agrees_with_itself (group m) (half m) μ (index k) (value μ x y) ≡ true
    record_agrees = not-false _ (passed (model_tests m (recording k x y)) tt e).1.1.1.0

    pub record_leaves : record_on (group m) (half m) μ (index k) (value μ x y) (model_volume m) ≡ model_volume (model_next m (recording k x y))
    record_leaves = ap (record_on (group m) (half m) μ (index k) (value μ x y)) (holds_factors m factors_stand) ∙ recorded_packed m sound (index k) (value μ x y) record_inside record_agrees ∙ sym (holds_factors (model_next m (recording k x y)) factors_stand)

    pub record_sound : LawfulModel (model_next m (recording k x y))
    record_sound = record { valid = sound.valid; lawful = lawful_recorded m sound (index k) (value μ x y) record_inside record_agrees }

  record_call : (k : Reflection) (x y : ℕ) → record_step (model_job m) k x y (model_volume m) ≡ result (model_said m (recording k x y)) (model_after m (recording k x y))
  unfolding record_step
  record_call k x y = agrees m (recording k x y) _ _ (record_tests_lem k x y) (λ e. ap (λ (v : List ℕ). record { answer = Said.done; job = model_job m; volume = v }) (record_leaves k x y e))

  -- ---- synthesis and analysis

  synthesis_tests_lem : (scratch : List ℕ) → first (model_tests m (synthesis scratch)) ≡ first (synthesis_tests (model_job m) (model_volume m) (length scratch))
  synthesis_tests_lem scratch = pass 25 _ no_25 (same_next _ 23 _ _ (λ s. pass 6 _ no_6 (same_next _ 13 _ _ (λ l. pass 7 _ no_7 (pass 14 _ (factors_no_14 s) refl)))))

  synthesis_leaves : eqb m.state map_held ≡ false → synthesised (model_job m) (model_volume m) ≡ model_volume (in_state m map_held)
  synthesis_leaves s = ap (synthesised (model_job m)) (holds_factors m s) ∙ synthesis_gives m sound ∙ sym (holds_map (in_state m map_held) refl)

  synthesis_call : (scratch : List ℕ) → (synthesis_step (model_job m) (model_volume m) scratch).outcome ≡ result (model_said m (synthesis scratch)) (model_after m (synthesis scratch))
  unfolding synthesis_step
  synthesis_call scratch = agrees_lent m (synthesis scratch) _ _ (cleared scratch) scratch (synthesis_tests_lem scratch)
      (λ e. ap (λ (v : List ℕ). record { answer = Said.done; job = model_job (in_state m map_held); volume = v }) (synthesis_leaves (passed (model_tests m (synthesis scratch)) tt e).0))

  analysis_tests_lem : (scratch : List ℕ) → first (model_tests m (analysis scratch)) ≡ first (analysis_tests (model_job m) (model_volume m) (length scratch))
  analysis_tests_lem scratch = pass 25 _ no_25 (same_next _ 22 _ _ (λ s. pass 6 _ no_6 (same_next _ 13 _ _ (λ l. pass 7 _ no_7 (pass 14 _ (map_no_14 (not-false _ s)) refl)))))

  analysis_leaves : eqb m.state map_held ≡ true → analysed (model_job m) (model_volume m) ≡ model_volume (in_state m factors_held)
  analysis_leaves s = ap (analysed (model_job m)) (holds_map m s) ∙ analysis_gives m sound ∙ sym (holds_factors (in_state m factors_held) refl)

  analysis_call : (scratch : List ℕ) → (analysis_step (model_job m) (model_volume m) scratch).outcome ≡ result (model_said m (analysis scratch)) (model_after m (analysis scratch))
  unfolding analysis_step
  analysis_call scratch = agrees_lent m (analysis scratch) _ _ (cleared scratch) scratch (analysis_tests_lem scratch)
      (λ e. ap (λ (v : List ℕ). record { answer = Said.done; job = model_job (in_state m factors_held); volume = v }) (analysis_leaves (not-false _ (passed (model_tests m (analysis scratch)) tt e).0)))

  -- ---- readings

  point_tests_lem : (x : GridPoint) → first (model_tests m (read_point x)) ≡ first (point_tests (model_job m) (position x) (model_volume m))
  point_tests_lem x = pass 25 _ no_25 (same_next _ 22 _ _ (λ s. same_next _ 10 _ _ (λ w. pass 6 _ no_6 (pass 7 _ (not_t _ (lt-ltb _ _ ((model_below m).each _))) refl))))

  point_call : (x : GridPoint) → point_step (model_job m) x (model_volume m) ≡ result (model_said m (read_point x)) (model_after m (read_point x))
  unfolding point_step
  point_call x = agrees m (read_point x) _ _ (point_tests_lem x) (λ e.
      let t = passed (model_tests m (read_point x)) tt e in
      ap (λ (n : ℕ). record { answer = Said.density (centred (prime μ) n); job = model_job m; volume = model_volume m })
      (ap (λ (v : List ℕ). get_or v (density_place (group m) (half m) (position x)) 0) (holds_map m (not-false _ t.0)) ∙ density_read m sound (position x) (within_inside m sound (position x) (not-false _ t.1.0))))

  factor_tests_lem : (k : Reflection) → first (model_tests m (read_factor k)) ≡ first (factor_tests (model_job m) (index k) (model_volume m))
  factor_tests_lem k = pass 25 _ no_25 (same_next _ 23 _ _ (λ s. same_next _ 10 _ _ (λ w. pass 6 _ no_6 (pass 7 _ (not_t _ (all_true _ (λ q. lt-ltb _ _ ((model_below m).each q)) (numbers_read (group m) (half m) (index k)))) refl))))

  factor_call : (k : Reflection) → factor_step (model_job m) k (model_volume m) ≡ result (model_said m (read_factor k)) (model_after m (read_factor k))
  unfolding factor_step
  factor_call k = agrees m (read_factor k) _ _ (factor_tests_lem k) (λ e.
      let t = passed (model_tests m (read_factor k)) tt e in
      ap (λ (z : Value μ). record { answer = Said.factor z.0.val z.1.val; job = model_job m; volume = model_volume m })
      (ap (λ (v : List ℕ). at (factors_in (group m) (half m) μ v) (index k)) (holds_factors m t.0) ∙ factor_read m sound (index k) (within_inside m sound (index k) (not-false _ t.1.0))))

  -- ---- the powers

  map_power_tests_lem : first (model_tests m read_map_power) ≡ first (map_power_tests (model_job m) (model_volume m))
  map_power_tests_lem = pass 25 _ no_25 (same_next _ 22 _ _ (λ s. pass 6 _ no_6 (pass 7 _ no_7 (pass 14 _ (map_no_14 (not-false _ s)) refl))))

  map_power_call : map_power_step (model_job m) (model_volume m) ≡ result (model_said m read_map_power) (model_after m read_map_power)
  unfolding map_power_step
  map_power_call = agrees m read_map_power _ _ map_power_tests_lem (λ e.
      ap (λ (n : ℕ). record { answer = Said.power n; job = model_job m; volume = model_volume m })
      (ap (map_power (group m) (half m) μ) (holds_map m (not-false _ (passed (model_tests m read_map_power) tt e).0)) ∙ map_power_read m sound))

  factor_power_tests_lem : first (model_tests m read_factor_power) ≡ first (factor_power_tests (model_job m) (model_volume m))
  factor_power_tests_lem = pass 25 _ no_25 (same_next _ 23 _ _ (λ s. pass 6 _ no_6 (pass 7 _ no_7 (pass 14 _ (factors_no_14 s) refl))))

  factor_power_call : factor_power_step (model_job m) (model_volume m) ≡ result (model_said m read_factor_power) (model_after m read_factor_power)
  unfolding factor_power_step
  factor_power_call = agrees m read_factor_power _ _ factor_power_tests_lem (λ e.
      ap (λ (n : ℕ). record { answer = Said.power n; job = model_job m; volume = model_volume m })
      (ap (factor_power (group m) (half m) μ) (holds_factors m (passed (model_tests m read_factor_power) tt e).0) ∙ factor_power_read m sound))

-- ---- every call

pub one_call : {μ : ℕ} (m : Model μ) → LawfulModel m → (c : Call) → (step (model_job m) (model_volume m) c ≡ record { answer = model_said m c; job = model_job (model_after m c); volume = model_volume (model_after m c) }) × LawfulModel (model_after m c)
one_call m sound (recording k x y) = (record_call m sound k x y, stays_sound m (recording k x y) sound (record_sound m sound k x y))
one_call m sound (synthesis scratch) = (synthesis_call m sound scratch, stays_sound m (synthesis scratch) sound (λ e. record { valid = valid_with (model_job m) map_held sound.valid (omega arith); lawful = sound.lawful }))
one_call m sound (analysis scratch) = (analysis_call m sound scratch, stays_sound m (analysis scratch) sound (λ e. record { valid = valid_with (model_job m) factors_held sound.valid (omega arith); lawful = sound.lawful }))
one_call m sound (read_point x) = (point_call m sound x, stays_sound m (read_point x) sound (λ e. sound))
one_call m sound (read_factor k) = (factor_call m sound k, stays_sound m (read_factor k) sound (λ e. sound))
one_call m sound read_map_power = (map_power_call m sound, stays_sound m read_map_power sound (λ e. sound))
one_call m sound read_factor_power = (factor_power_call m sound, stays_sound m read_factor_power sound (λ e. sound))

-- a call that no test of the model refuses
pub accepted_call : {μ : ℕ} (m : Model μ) → LawfulModel m → (c : Call) → 0 ≡ first (model_tests m c) → step (model_job m) (model_volume m) c ≡ result (model_says m c) (model_next m c)
unfolding model_said model_after
accepted_call m sound c e = (one_call m sound c).0 ∙ λ i. result (accepted (sym e i) (model_says m c) Said.refused) (accepted (sym e i) (model_next m c) (λ n. m))
