-- The loop of a replay: after i calls, the rest of the script gives the rest of the answers.
use mathlib.Core.Path.{◌≡◌, refl, ◌∙◌, sym, ap}
use mathlib.Core.List.{List, [], ◌∷◌, ◌++◌, append_assoc, append-nil}
use Prim.Native.Nat.{ℕ, suc, ◌+◌, ◌-◌, ◌*◌, ◌≤◌, ◌<◌}
use native.Mathlib.Nat.{sub-zero}
use native.Mathlib.Omega.{arith}
use lib.ListN.{length, take, drop, take-append-drop}
use Rattle.signed.specs.Integers.{ℤ}
use Rattle.job.specs.declared.Job.{Job}
use Rattle.job.specs.declared.reply.Reply.{Reply}
use Rattle.job.specs.Answers.{reply_of}
use Rattle.demands.specs.Demands.{step, run}
use Rattle.scripts.specs.Script.{call_at, reply_numbers, scratch_left, CallOutcome, call_step, calls, all_numbers, scratch_after, ReplayOutcome, call_count, ended, replay_step}
use Rattle.scripts.proofs.calls.Calls.{call_by_length}
use Rattle.scripts.proofs.layout.Placed.{placed, take_placed, drop_placed}

-- ---- an answer among the others

three_numbers : (a : Reply) → length (reply_numbers a) ≡ 3
three_numbers a = refl

-- the answer of call i of n, written to its three places, stands before the later ones
answer_placed : (out out' : List ℤ) (i n : ℕ) (a : Reply) (later : List ℤ) → i < n → 3 * n ≤ length out → out' ≡ placed out (3 * i) (reply_numbers a) →
    take (3 * (i + 1)) out' ++ later ++ drop (3 * n) out' ≡ take (3 * i) out ++ (reply_numbers a ++ later) ++ drop (3 * n) out
answer_placed out out' i n a later h fits w =
    let t : 3 * (i + 1) ≡ 3 * i + length (reply_numbers a) = omega (arith, three_numbers a) in
    rw (w, t, take_placed out (3 * i) (reply_numbers a) (omega (arith, three_numbers a)), drop_placed out (3 * i) (reply_numbers a) (omega (arith, three_numbers a)) (3 * n) (omega (arith, three_numbers a)), append_assoc (take (3 * i) out) (reply_numbers a) later)

-- ---- the rest of a script

module _ (script lent : List ℕ) (n : ℕ) where
  -- what the calls from number i on leave of a job, its buffers, and an output that has the answers of those before
  unfoldable pub resumed : (i : ℕ) → Job → (volume scratch : List ℕ) (out : List ℤ) → ReplayOutcome
  resumed i j v s out =
      let rest = calls lent script i (n - i) in
      let r = run j v rest in
      record {
        job = r.job;
        written = 3 * n;
        volume = r.volume;
        scratch = scratch_after rest r.answers s;
        answers = take (3 * i) out ++ all_numbers r.answers ++ drop (3 * n) out;
      }

  calls_cons : (i : ℕ) → i < n → calls lent script i (n - i) ≡ call_at lent script i ∷ calls lent script (i + 1) (n - (i + 1))
  unfolding calls
  calls_cons i h = let e : n - i ≡ suc (n - (i + 1)) = omega arith in rw e

  -- a call and its answer
  pub resumed_next : (i : ℕ) (j : Job) (v s : List ℕ) (out : List ℤ) (o : CallOutcome) (out' : List ℤ) → i < n → 3 * n ≤ length out → o ≡ call_step j v s (call_at lent script i) → out' ≡ placed out (3 * i) (reply_numbers o.reply) →
      resumed (i + 1) o.job o.volume o.scratch out' ≡ resumed i j v s out
  unfolding resumed call_step run scratch_after all_numbers
  resumed_next i j v s out o out' h fits e w =
      let q = step j v (call_at lent script i) in
      let r = run q.job q.volume (calls lent script (i + 1) (n - (i + 1))) in
      let d = answer_placed out out' i n (reply_of q.answer) (all_numbers r.answers) h fits (w ∙ ap (λ (x : CallOutcome). placed out (3 * i) (reply_numbers x.reply)) e) in
      rw (e, calls_cons i h) (λ x. record {
        job = r.job;
        written = 3 * n;
        volume = r.volume;
        scratch = scratch_after (calls lent script (i + 1) (n - (i + 1))) r.answers (scratch_left (call_at lent script i) q.answer s);
        answers = d x;
      })

  pub resumed_all : (i : ℕ) (j : Job) (v s : List ℕ) (out : List ℤ) → i ≤ n → n ≤ i → record { job = j; written = 3 * n; volume = v; scratch = s; answers = out } ≡ resumed i j v s out
  unfolding resumed calls run scratch_after all_numbers
  resumed_all i j v s out h g =
      let e : n - i ≡ 0 = omega arith in
      let f : 3 * i ≡ 3 * n = omega arith in
      let d : out ≡ take (3 * n) out ++ [] ++ drop (3 * n) out = sym (rw append-nil (take-append-drop (3 * n) out)) in
      rw (e, f) (λ x. record { job = j; written = 3 * n; volume = v; scratch = s; answers = d x })

-- of no call yet
pub resumed_none : (script v s : List ℕ) (out : List ℤ) (n : ℕ) (j : Job) → n ≡ call_count script out → resumed script s n 0 j v s out ≡ replay_step j script v s out
unfolding resumed ended
resumed_none script v s out n j e = rw (sub-zero, e)

-- ---- the invariant: i of n calls are done

pub record Replaying (script lent : List ℕ) (out₀ : List ℤ) (n : ℕ) (all : ReplayOutcome) (i : ℕ) (j : Job) (v s : List ℕ) (out : List ℤ) : Type 0 where
  pub le : i ≤ n
  pub scratch_length_lem : length s ≡ length lent
  pub output_length : length out ≡ length out₀
  pub is : resumed script lent n i j v s out ≡ all

module _ {script lent : List ℕ} {out₀ : List ℤ} {n : ℕ} {all : ReplayOutcome} {i : ℕ} {j : Job} {v s : List ℕ} {out : List ℤ} where
  pub replaying_next : (o : CallOutcome) (out' : List ℤ) → Replaying script lent out₀ n all i j v s out → i < n → 3 * n ≤ length out₀ → length o.scratch ≡ length s → length out' ≡ length out →
      o ≡ call_step j v s (call_at s script i) → out' ≡ placed out (3 * i) (reply_numbers o.reply) → Replaying script lent out₀ n all (i + 1) o.job o.volume o.scratch out'
  replaying_next o out' k h fits ls lo e w = record {
    le = omega arith;
    scratch_length_lem = ls ∙ k.scratch_length_lem;
    output_length = lo ∙ k.output_length;
    is = resumed_next script lent n i j v s out o out' h (omega (arith, k.output_length)) (e ∙ call_by_length j v s s lent _ _ _ _ _ _ k.scratch_length_lem) w ∙ k.is;
  }

  pub replaying_all : Replaying script lent out₀ n all i j v s out → n ≤ i → record { job = j; written = 3 * n; volume = v; scratch = s; answers = out } ≡ all
  replaying_all k h = resumed_all script lent n i j v s out k.le h ∙ k.is
