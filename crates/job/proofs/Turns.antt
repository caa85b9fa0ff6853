-- The turn of one line: what its line is, what it answers and leaves; and all turns of a job.
use mathlib.Core.Path.{◌≡◌, refl, sym, ap, ◌∙◌, subst}
use mathlib.Core.Bool.{Bool, true, false, cond, not}
use mathlib.Core.List.{List}
use Prim.Native.Nat.{ℕ, zero, suc, ◌+◌, ◌*◌, ◌/◌, ◌≤◌}
use native.Mathlib.Omega.{arith}
use lib.ListN.{length}
use borrow.Author.Tests.{eq-eqb, le-ltb, not-true, not-false}
use Rattle.refusals.specs.declared.Refusal.{Refusal}
use Rattle.std.specs.Prelude.{Ok, Err}
use Rattle.refusals.specs.Refusals.{number_of, first}
use Rattle.refusals.proofs.Tests.{fails, pass, none, not_t}
use Rattle.algebra.proofs.ring.Laws.{along}
use Rattle.numbers.specs.Value.{prime}
use Rattle.slices.specs.Pairs.{Below, all_below}
use Rattle.slices.proofs.Bounds.{all_below_below}
use Rattle.lengths.specs.Lengths.{cleared, scratch_length}
use Rattle.cell.specs.Volume.{layers, volume_length}
use Rattle.volume_transform.specs.declared.plan.Plan.{Plan}
use Rattle.volume_transform.specs.declared.plan.Line.{Line}
use Rattle.volume_transform.specs.Axes.{line_count, line_of_turn}
use Rattle.volume_transform.specs.Lines.{Placed, OwnTurn, line_turned}
use Rattle.volume_transform.specs.Plans.{plan_group, plan_halves, Planned, LineAt}
use Rattle.volume_transform.specs.Turns.{turns}
use Rattle.volume_transform.proofs.Ready.{line_placed, line_directed}
use Rattle.volume_transform.proofs.plan.AxisLines.{modulus_is, numbers_as, turned_as}
use Rattle.volume_transform.proofs.sums.Turns.{length_job_turn, below_job_turn, below_numbers, turned_along}
use Rattle.job.specs.declared.Job.{Job}
use Rattle.job.specs.Job.{valid_job, group_in, halves, done, synthesised, synthesis_step}
use Rattle.job.specs.TestSteps.{synthesis_tests}
use Rattle.job.specs.Plans.{plan_of}
use Rattle.job.specs.Answers.{turn_outcome}
use Rattle.job.specs.Turns.{lines_of, numbers_at, line_synthesised, turn_tests, TurnOutcome, turn_step, after_turns, TurnsSynthesise}
use Rattle.job.proofs.Jobs.{valid_modulus, valid_job_sizes}
use Rattle.job.proofs.Volumes.{synthesis_ready, all_synthesised}
use Rattle.job.proofs.Outcomes.{synthesis_accepted, synthesis_volume}

-- ---- the line of a turn

module _ (j : Job) (valid : valid_job j ≡ true) {p : Plan} (e : p ≡ plan_of j 0) where
  pub planned : Planned p
  planned = subst Planned (sym e) (record { modulus = valid_modulus j valid; directed = omega arith; sizes = valid_job_sizes j valid })

  pub lines_of_lem : line_count (plan_group p) (plan_halves p) ≡ lines_of j
  unfolding lines_of
  lines_of_lem = ap (λ p. line_count (plan_group p) (plan_halves p)) e

  module _ (n : ℕ) {x : Line} (found : LineAt p (line_of_turn (plan_group p) (plan_halves p) p.direction n) x) where
    line_of : LineAt (plan_of j 0) n x
    unfolding line_of_turn
    line_of = subst (λ p. LineAt p (line_of_turn (plan_group p) (plan_halves p) p.direction n) x) e found

    pub placed_in : (v : List ℕ) → length v ≡ volume_length (group_in j) (halves j) → Placed (length v) x
    placed_in v long = subst (λ n. Placed n x) (sym long) (line_placed (plan_of j 0) n x line_of)

    pub directed_of : x.direction ≡ 0
    directed_of = line_directed (plan_of j 0) n x line_of

    module _ {r : Bool} {v v' s s' : List ℕ} (o : OwnTurn (line_turned x) x r v v' s s') where
      pub own_numbers : r ≡ all_below (prime j.modulus) (numbers_at j n v)
      own_numbers = o.tested ∙ λ i. all_below (prime (modulus_is (plan_of j 0) n x line_of i)) (numbers_as (plan_of j 0) n x line_of v i)

      pub own_volume : v' ≡ cond r (line_synthesised j n v) v
      unfolding line_synthesised
      own_volume = o.volume ∙ ap (λ w. cond r w v) (turned_as (plan_of j 0) n x line_of v)

-- what is left where the test failed, and where it held
pub left_as : (r : Bool) (a b : List ℕ) {w : List ℕ} → r ≡ false → w ≡ cond r a b → w ≡ b
left_as r a b t e = e ∙ ap (λ r. cond r a b) t

pub made_as : (r : Bool) (a b : List ℕ) {w : List ℕ} → r ≡ true → w ≡ cond r a b → w ≡ a
made_as r a b t e = e ∙ ap (λ r. cond r a b) t

-- ---- what it answers and leaves

module _ (j : Job) (n : ℕ) (v s : List ℕ) where
  pub turn_refused : (r : Refusal) {v' s' : List ℕ} → number_of r ≡ first (turn_tests j n v (length s)) → v' ≡ v → s' ≡ s → turn_outcome (Err r) v' s' ≡ turn_step j n v s
  unfolding turn_step
  turn_refused r e ev es = (λ i. turn_outcome (Err r) (ev i) (es i)) ∙ fails r _ _ (λ k. record { answer = k; volume = v; scratch = s }) e

  pub turn_done : {v' s' : List ℕ} → 0 ≡ first (turn_tests j n v (length s)) → v' ≡ line_synthesised j n v → s' ≡ cleared s → turn_outcome (Ok tt) v' s' ≡ turn_step j n v s
  unfolding turn_step
  turn_done e ev es = rw (← e, ev, es)

  taken_step : 0 ≡ first (turn_tests j n v (length s)) → turn_step j n v s ≡ record { answer = 0; volume = line_synthesised j n v; scratch = cleared s }
  unfolding turn_step
  taken_step e = rw (← e)

-- ---- all turns

-- one line more
pub next_line : (j : Job) (v : List ℕ) (n : ℕ) → line_synthesised j n (turns (line_synthesised j) 0 n v) ≡ turns (line_synthesised j) 0 (suc n) v
unfolding turns
next_line j v n = along (λ q. line_synthesised j q (turns (line_synthesised j) 0 n v)) n (0 + n) (omega arith)

-- what every turn keeps: the length of the volume, and that its numbers are residues
record Kept (j : Job) (v : List ℕ) : Type 0 where
  pub long : length v ≡ volume_length (group_in j) (halves j)
  pub small : Below (prime j.modulus) v

module _ (j : Job) where
  kept_turn : (n : ℕ) (v : List ℕ) → Kept j v → Kept j (line_synthesised j n v)
  unfolding line_synthesised
  kept_turn n v k = record {
    long = length_job_turn (group_in j) (halves j) j.modulus 0 n v ∙ k.long;
    small = below_job_turn (group_in j) (halves j) j.modulus 0 n v k.small;
  }

  no_test : (n : ℕ) (v s : List ℕ) → Kept j v → scratch_length ≤ length s → 0 ≡ first (turn_tests j n v (length s))
  no_test n v s k room =
      pass 6 _ (not_t _ (eq-eqb _ _ k.long))
      (pass 13 _ (le-ltb _ _ room)
      (pass 7 _ (not_t _ (all_below_below (prime j.modulus) (numbers_at j n v) (below_numbers (group_in j) (halves j) j.modulus n v k.small))) none))

  module _ (s : ℕ → List ℕ) (room : (i : ℕ) → scratch_length ≤ length (s i)) (v : List ℕ) (k : Kept j v) where
    -- n turns are n lines of the synthesis
    after : (n : ℕ) → (after_turns j s n v ≡ turns (line_synthesised j) 0 n v) × Kept j (after_turns j s n v)
    unfolding after_turns turns
    after zero = (refl, k)
    after (suc n) =
        let a = after n in
        let e = ap (λ (o : TurnOutcome). o.volume) (taken_step j n (after_turns j s n v) (s n) (no_test n (after_turns j s n v) (s n) a.1 (room n))) in
        (e ∙ ap (line_synthesised j n) a.0 ∙ next_line j v n, subst (Kept j) (sym e) (kept_turn n (after_turns j s n v) a.1))

    taken : (n : ℕ) → (turn_step j n (after_turns j s n v) (s n)).answer ≡ 0
    taken n = ap (λ (o : TurnOutcome). o.answer) (taken_step j n (after_turns j s n v) (s n) (no_test n (after_turns j s n v) (s n) (after n).1 (room n)))

-- all lines of a job whose volume a synthesis takes are the synthesis
pub all_lines : (j : Job) (v : List ℕ) (scratch : ℕ) → 0 ≡ first (synthesis_tests j v scratch) → turns (line_synthesised j) 0 (lines_of j) v ≡ synthesised j v
unfolding lines_of line_synthesised
all_lines j v scratch e = sym (turned_along (group_in j) (halves j) j.modulus 0 (lines_of j) v) ∙ all_synthesised j v scratch e (plan_of j 0) refl

-- what synthesis knows where it is accepted
found : (j : Job) (v scratch : List ℕ) → (synthesis_step j v scratch).outcome.answer ≡ done → Kept j v
found j v scratch a = let r = (synthesis_ready j v (length scratch) (synthesis_accepted j v scratch a)).0 in record { long = r.long; small = r.small }

-- how many lines there are
count : (N R B W : ℕ) → R ≡ N → R * suc B + W * suc B + W * R ≡ N * (B + 1) + W * (B + 1) + W * N
count N R B W e = ap (λ r. r * suc B + W * suc B + W * r) e ∙ omega arith

counted : (j : Job) → valid_job j ≡ true → let W = layers (group_in j) (halves j) in lines_of j ≡ j.a.length * (j.b.length / 2 + 1) + W * (j.b.length / 2 + 1) + W * j.a.length
unfolding lines_of
counted j e = count j.a.length _ (j.b.length / 2) (layers (group_in j) (halves j)) (valid_job_sizes j e).first.whole

pub turns_synthesise : TurnsSynthesise
turns_synthesise = record {
  counted = counted;
  taken = λ j v scratch s n a room. taken j s room v (found j v scratch a) n;
  whole = λ j v scratch s a room.
      (after j s room v (found j v scratch a) (lines_of j)).0
      ∙ all_lines j v (length scratch) (synthesis_accepted j v scratch a)
      ∙ sym (synthesis_volume j v scratch a);
}
