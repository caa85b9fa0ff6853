-- The lane that next names is the first above the one served last that runs, and a turn is one of it.
use mathlib.Core.Path.{◌≡◌, refl, sym, ap, subst, ◌∙◌}
use mathlib.Core.Logic.{◌⊎◌, inl, inr}
use mathlib.Core.Bool.{Bool, true, false, not, cond}
use mathlib.Core.List.{List}
use Prim.Native.Nat.{ℕ, zero, suc, ◌-◌, ◌≤◌}
use native.Mathlib.Omega.{arith}
use lib.ListN.{length, get_or}
use lib.Dec.{eqb, ltb}
use Rattle.refusals.specs.Refusals.{first, accepted}
use Rattle.numbers.specs.Value.{prime}
use Rattle.slices.specs.Pairs.{all_below}
use Rattle.lengths.specs.Lengths.{scratch_length}
use Rattle.header.specs.Header.{map_held}
use Rattle.job.specs.declared.Job.{Job}
use Rattle.job.specs.Job.{fits, with_state}
use Rattle.job.specs.Turns.{numbers_at}
use Rattle.scheduler.specs.declared.Lane.{Lane}
use Rattle.scheduler.specs.declared.Scheduler.{Scheduler}
use Rattle.scheduler.specs.Scheduler.{free, running, done_in, valid_scheduler, next_lane, is_lane, lane_at, Said, next, served, finished, idle, refused, Outcome, unchanged, next_said, next_step, turn_said, serve, turn_step}
use Rattle.scheduler.specs.Schedules.{above, NextAbove, TurnOf, serving, finishing, TurnsNamed}
use Rattle.scheduler.proofs.Numbers.{not_zero, before, after, never}
use Rattle.scheduler.proofs.Validity.{valid_parts, parts_valid, last_low}
use Rattle.scheduler.proofs.NextLane.{next_runs, next_some, next_first}
use Rattle.scheduler.proofs.Steps.{lane_number, is_lane_lem, below_eight, turn_serves, turn_idles}
use Rattle.scheduler.proofs.Accepted.{Serves, Turn, turned_back, idling, turn_cases, refused_next, refused_idle, idle_next, refused_served, refused_finished}
use Rattle.scheduler.proofs.Accepted as Accepted
use Rattle.scheduler.proofs.Capacity.{serving_turn, finishing_turn}

-- ---- what next says

module _ (s : Scheduler) where
  pub next_invalid : valid_scheduler s ≡ false → next_step s ≡ refused 25
  unfolding next_step
  next_invalid e = rw e

  pub next_valid : valid_scheduler s ≡ true → next_step s ≡ next_said (next_lane s)
  unfolding next_step
  next_valid e = rw e

  pub data Next : Type 0 where
    invalid : next_step s ≡ refused 25 → valid_scheduler s ≡ false → Next
    nowhere : next_step s ≡ idle → valid_scheduler s ≡ true → next_lane s ≡ 0 → Next
    lane : (i : ℕ) → next_step s ≡ next (suc i) → valid_scheduler s ≡ true → next_lane s ≡ suc i → Next

  pub next_cases : Next
  next_cases = go (valid_scheduler s) refl (next_lane s) refl
    where
      go : (b : Bool) → valid_scheduler s ≡ b → (n : ℕ) → next_lane s ≡ n → Next
      go false e n q = invalid (next_invalid e) e
      go true e zero q = nowhere (next_valid e ∙ ap next_said q) e q
      go true e (suc i) q = lane i (next_valid e ∙ ap next_said q) e q

-- the lane d, which is number `index`, counted from 0
record Named (s : Scheduler) (d : ℕ) : Type 0 where
  index : ℕ
  number : suc index ≡ d
  valid : valid_scheduler s ≡ true
  found : next_lane s ≡ suc index

same_lane : {a b : ℕ} → next a ≡ next b → a ≡ b
same_lane e = cc

same_number : {a b : ℕ} → refused a ≡ refused b → b ≡ a
same_number e = cc

module _ (s : Scheduler) where
  is_named : (d : ℕ) → next_step s ≡ next d → Named s d
  is_named d e = go (next_cases s)
    where
      go : Next s → Named s d
      go (invalid q v) = absurd (refused_next (sym q ∙ e))
      go (nowhere q v z) = absurd (idle_next (sym q ∙ e))
      go (lane i q v z) = record { index = i; number = same_lane (sym q ∙ e); valid = v; found = z }

  is_idle : next_step s ≡ idle → (valid_scheduler s ≡ true) × (next_lane s ≡ 0)
  is_idle e = go (next_cases s)
    where
      go : Next s → (valid_scheduler s ≡ true) × (next_lane s ≡ 0)
      go (invalid q v) = absurd (refused_idle (sym q ∙ e))
      go (nowhere q v z) = (v, z)
      go (lane i q v z) = absurd (idle_next (sym e ∙ q))

  pub next_taken : valid_scheduler s ≡ true → (n : ℕ) → next_step s ≡ refused n → ⊥
  next_taken e n q = go (next_cases s)
    where
      go : Next s → ⊥
      go (invalid p v) = never (sym v ∙ e)
      go (nowhere p v z) = refused_idle (sym q ∙ p)
      go (lane i p v z) = refused_next (sym q ∙ p)

  -- ---- the first above the one served last

  told : valid_scheduler s ≡ true → (next_step s ≡ idle) ⊎ ((d : ℕ) × (next_step s ≡ next d))
  told e = go (next_cases s)
    where
      go : Next s → (next_step s ≡ idle) ⊎ ((d : ℕ) × (next_step s ≡ next d))
      go (invalid q v) = absurd (never (sym v ∙ e))
      go (nowhere q v z) = inl q
      go (lane i q v z) = inr (suc i, q)

  runs : (d : ℕ) → next_step s ≡ next d → (is_lane d ≡ true) × (running (lane_at s d) ≡ true)
  runs d e =
      let n = is_named d e in
      let r = next_runs s.lanes _ 0 8 n.index n.found in
      subst (λ k. (is_lane k ≡ true) × (running (lane_at s k) ≡ true)) n.number
      (is_lane_lem (omega arith) r.0, ap (λ k. running (get_or s.lanes k free)) (before n.index) ∙ r.1)

  nearest : (d e : ℕ) → next_step s ≡ next d → is_lane e ≡ true → running (lane_at s e) ≡ true → above s.last d ≤ above s.last e
  nearest d e q l r =
      let n = is_named d q in
      let m = lane_number e l in
      subst (λ k. above s.last d ≤ above s.last k) (after m.0)
      (subst (λ k. above s.last k ≤ above s.last (suc (e - 1))) (n.found ∙ n.number)
      (next_first s.lanes s.last (e - 1) r (last_low s (valid_parts s n.valid)) (below_eight m)))

  none_runs : (d : ℕ) → next_step s ≡ idle → is_lane d ≡ true → running (lane_at s d) ≡ false
  none_runs d e l = go (running (lane_at s d)) refl
    where
      go : (b : Bool) → running (lane_at s d) ≡ b → b ≡ false
      go true r = let i = is_idle e in absurd (next_some s.lanes s.last (d - 1) r (last_low s (valid_parts s i.0)) (below_eight (lane_number d l)) i.1)
      go false r = refl

pub next_above : NextAbove
next_above = record { told = told; runs = runs; nearest = nearest; idle = none_runs }

-- ---- a turn

-- a turn says that it is one of its lane, and is not refused
module _ (i : ℕ) (l : Lane) where
  pub turn_of_lem : TurnOf (suc i) (turn_said (suc i) l)
  turn_of_lem = go (eqb l.left 1)
    where
      go : (b : Bool) → TurnOf (suc i) (cond b (finished (suc i) (with_state l.job map_held)) (served (suc i)))
      go true = finishing
      go false = serving

  pub said_taken : (n : ℕ) → turn_said (suc i) l ≡ refused n → ⊥
  said_taken n e = go (eqb l.left 1) e
    where
      go : (b : Bool) → cond b (finished (suc i) (with_state l.job map_held)) (served (suc i)) ≡ refused n → ⊥
      go true e = refused_finished (sym e)
      go false e = refused_served (sym e)

of_turn_lem : {d : ℕ} {a : Said} → TurnOf d a → (a ≡ served d) ⊎ ((j : Job) × (a ≡ finished d j))
of_turn_lem serving = inl refl
of_turn_lem (finishing {j = j}) = inr (j, refl)

abbrev OwnNumber : ℕ → Type 0
OwnNumber n = (n ≡ 6) ⊎ ((n ≡ 13) ⊎ (n ≡ 7))

module _ (s : Scheduler) (v scratch : List ℕ) where
  abbrev said : Outcome → Said
  said o = o.answer

  served_next : (d i : ℕ) → Serves s v scratch i → suc i ≡ d → next_step s ≡ next d
  served_next d i t q = next_valid s (parts_valid s t.whole) ∙ ap next_said t.next ∙ ap next q

  named : (d : ℕ) → TurnOf d (turn_step s v scratch).answer → next_step s ≡ next d
  named d t = go (of_turn_lem t)
    where
      go : ((turn_step s v scratch).answer ≡ served d) ⊎ ((j : Job) × ((turn_step s v scratch).answer ≡ finished d j)) → next_step s ≡ next d
      go (inl e) = let t = serving_turn s v scratch d e in served_next d t.0 t.1 t.3
      go (inr e) = let t = finishing_turn s v scratch d e.0 e.1 in served_next d t.0 t.1 t.3

  -- the numbers of a refused turn
  serve_number : (i n : ℕ) → (serve s i v scratch).answer ≡ refused n → OwnNumber n
  unfolding serve first
  serve_number i n e =
      let l = get_or s.lanes i free in
      go (not (fits l.job v)) (ltb (length scratch) scratch_length) (not (all_below (prime l.job.modulus) (numbers_at l.job (done_in l) v))) _ (said_taken i l n) e
    where
      go : (a b c : Bool) (o : Outcome) → (o.answer ≡ refused n → ⊥) → (accepted (cond a 6 (cond b 13 (cond c 7 0))) o (λ k. unchanged s v scratch (refused k))).answer ≡ refused n → OwnNumber n
      go true b c o h e = inl (same_number e)
      go false true c o h e = inr (inl (same_number e))
      go false false true o h e = inr (inr (same_number e))
      go false false false o h e = absurd (h e)

  pub turn_number : valid_scheduler s ≡ true → (n : ℕ) → (turn_step s v scratch).answer ≡ refused n → OwnNumber n
  turn_number e n q = go (next_lane s) refl
    where
      go : (k : ℕ) → next_lane s ≡ k → OwnNumber n
      go zero z = absurd (refused_idle (sym q ∙ ap said (turn_idles s v scratch e z)))
      go (suc i) z = serve_number i n (sym (ap said (turn_serves s v scratch e i z)) ∙ q)

  serves : (d : ℕ) → next_step s ≡ next d → TurnOf d (turn_step s v scratch).answer ⊎ ((n : ℕ) × ((turn_step s v scratch).answer ≡ refused n) × OwnNumber n)
  serves d e = go (turn_cases s v scratch)
    where
      n : Named s d
      n = is_named s d e

      go : Turn s v scratch → TurnOf d (turn_step s v scratch).answer ⊎ ((n : ℕ) × ((turn_step s v scratch).answer ≡ refused n) × OwnNumber n)
      go (turned_back m q) = inr (m, ap said q, turn_number n.valid m (ap said q))
      go (idling q z) = absurd (not_zero (sym z ∙ n.found))
      go (Accepted.serving i t) =
          inl (subst (λ k. TurnOf k (turn_step s v scratch).answer) (sym t.next ∙ n.found ∙ n.number)
          (subst (TurnOf (suc i)) (sym (ap said t.outcome)) (turn_of_lem i (get_or s.lanes i free))))

  idles : next_step s ≡ idle → turn_step s v scratch ≡ unchanged s v scratch idle
  idles e = let i = is_idle s e in turn_idles s v scratch i.0 i.1

pub turns_named : TurnsNamed
turns_named = record { named = named; serves = serves; idles = idles }
