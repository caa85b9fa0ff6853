-- The numbers of a script: six for a call, its operation, three of an index or a point, two of a value; and three for
-- an answer, which have signs.
use Rattle.std.specs.Prelude.{List, [], ◌∷◌, ◌++◌, ℕ, ◌+◌, ◌*◌, zero, suc, ◌/◌, min, get_or, length, drop}
use Rattle.signed.specs.Integers.{ℤ, pos}
use Rattle.scripts.specs.declared.layout.CallNumbers.{CallNumbers}
use Rattle.lengths.specs.Lengths.{cleared}
use Rattle.job.specs.declared.Job.{Job}
use Rattle.job.specs.declared.reply.Reply.{Reply}
use Rattle.job.specs.Answers.{reply_of}
use Rattle.job.specs.Job.{Said, done, density, factor, power, refused}
pub use Rattle.job.specs.Job.{Call, recording, synthesis, analysis, read_point, read_factor, read_map_power}
pub use Rattle.job.specs.Job.{read_factor_power, step}
use Rattle.scripts.specs.declared.calls.Called.{Called}
use Rattle.model.specs.Model.{Model, Call}
use Rattle.demands.specs.Demands.{Ran, run, model_ran}
use Rattle.scripts.specs.declared.replay.Replayed.{Replayed}

-- the numbers of call i
abbrev pub numbers_at : (script : List ℕ) (i : ℕ) → CallNumbers
numbers_at script i =
    record {
      operation = get_or script (6 * i) 0;
      h = get_or script (6 * i + 1) 0;
      k = get_or script (6 * i + 2) 0;
      l = get_or script (6 * i + 3) 0;
      x = get_or script (6 * i + 4) 0;
      y = get_or script (6 * i + 5) 0;
    }

-- an answer as it is written
abbrev pub reply_numbers : Reply → List ℤ
reply_numbers r = pos r.number ∷ r.x ∷ r.y ∷ []

-- ---- One call of a job as numbers, and what it answers and leaves of a job, a volume and a scratch. A call is six
-- numbers: its operation, three of an index or a point, two of a value. Operation 0 records, 1 is synthesis, 2
-- analysis, 3 reads a point, 5 the power of a map, 6 that of factors, any other a factor.

-- ---- the call

-- A synthesis or an analysis is said with the scratch as it was lent at first: of a scratch its call asks the length
-- alone.
unfoldable pub call_of : (scratch : List ℕ) (operation h k l x y : ℕ) → Call
call_of scratch zero h k l x y = recording (record { 0 = h; 1 = k; 2 = l }) x y
call_of scratch (suc zero) h k l x y = synthesis scratch
call_of scratch (suc (suc zero)) h k l x y = analysis scratch
call_of scratch (suc (suc (suc zero))) h k l x y = read_point (record { 0 = h; 1 = k; 2 = l })
call_of scratch (suc (suc (suc (suc zero)))) h k l x y = read_factor (record { 0 = h; 1 = k; 2 = l })
call_of scratch (suc (suc (suc (suc (suc zero))))) h k l x y = read_map_power
call_of scratch (suc (suc (suc (suc (suc (suc zero)))))) h k l x y = read_factor_power
call_of scratch (suc (suc (suc (suc (suc (suc (suc o))))))) h k l x y = read_factor (record { 0 = h; 1 = k; 2 = l })

abbrev pub call_at : (scratch script : List ℕ) (i : ℕ) → Call
call_at scratch script i =
    call_of scratch (get_or script (6 * i) 0) (get_or script (6 * i + 1) 0) (get_or script (6 * i + 2) 0)
    (get_or script (6 * i + 3) 0) (get_or script (6 * i + 4) 0) (get_or script (6 * i + 5) 0)

abbrev pub call_said : (scratch : List ℕ) → CallNumbers → Call
call_said scratch n = call_of scratch n.operation n.h n.k n.l n.x n.y

-- ---- what it leaves

-- an accepted synthesis or analysis clears the scratch
abbrev pub cleared_if_done : Said → List ℕ → List ℕ
cleared_if_done done s = cleared s
cleared_if_done (density n) s = s
cleared_if_done (factor x y) s = s
cleared_if_done (power n) s = s
cleared_if_done (refused n) s = s

abbrev pub scratch_left : Call → Said → List ℕ → List ℕ
scratch_left (recording k x y) a s = s
scratch_left (synthesis lent) a s = cleared_if_done a s
scratch_left (analysis lent) a s = cleared_if_done a s
scratch_left (read_point x) a s = s
scratch_left (read_factor k) a s = s
scratch_left read_map_power a s = s
scratch_left read_factor_power a s = s

-- the three numbers that it answers, and what it leaves
pub record CallOutcome : Type 0 where
  pub reply : Reply
  pub job : Job
  pub volume : List ℕ
  pub scratch : List ℕ

unfoldable pub call_step : Job → (volume scratch : List ℕ) → Call → CallOutcome
call_step j v s c =
    let o = step j v c in
    record { reply = reply_of o.answer; job = o.job; volume = o.volume; scratch = scratch_left c o.answer s }

-- ---- What one call of a script answered and left, as an outcome: the left side of its promise.

abbrev pub call_outcome : Called → (volume scratch : List ℕ) → CallOutcome
call_outcome r v s = record { reply = r.reply; job = r.job; volume = v; scratch = s }

-- ---- A script of calls as numbers, and what replaying it on a job and a volume answers and leaves.

-- ---- calls

-- n calls from number i on
unfoldable pub calls : (scratch script : List ℕ) (i n : ℕ) → List Call
calls scratch script i zero = []
calls scratch script i (suc n) = call_at scratch script i ∷ calls scratch script (i + 1) n

-- ---- answers

unfoldable pub all_numbers : List Said → List ℤ
all_numbers [] = []
all_numbers (a ∷ l) = reply_numbers (reply_of a) ++ all_numbers l

unfoldable pub scratch_after : List Call → List Said → List ℕ → List ℕ
scratch_after [] answers s = s
scratch_after (c ∷ l) [] s = s
scratch_after (c ∷ l) (a ∷ answers) s = scratch_after l answers (scratch_left c a s)

-- ---- a replay

pub record ReplayOutcome : Type 0 where
  pub job : Job
  pub written : ℕ
  pub volume : List ℕ
  pub scratch : List ℕ
  pub answers : List ℤ

abbrev pub replay_outcome : Replayed → (volume scratch : List ℕ) (answers : List ℤ) → ReplayOutcome
replay_outcome r v s out = record { job = r.job; written = r.written; volume = v; scratch = s; answers = out }

-- as many calls as the script has whole and the output has room to answer
abbrev pub call_count : (script : List ℕ) (out : List ℤ) → ℕ
call_count script out = min (length script / 6) (length out / 3)

abbrev pub script_calls : (scratch script : List ℕ) (out : List ℤ) → List Call
script_calls scratch script out = calls scratch script 0 (call_count script out)

-- what is left, given what the calls answered and left: the places of the output beyond the answers are as they were
unfoldable pub ended : Ran → (script scratch : List ℕ) (out : List ℤ) → ReplayOutcome
ended r script scratch out = record {
  job = r.job;
  written = 3 * call_count script out;
  volume = r.volume;
  scratch = scratch_after (script_calls scratch script out) r.answers scratch;
  answers = all_numbers r.answers ++ drop (3 * call_count script out) out;
}

abbrev pub replay_step : Job → (script volume scratch : List ℕ) (out : List ℤ) → ReplayOutcome
replay_step j script v scratch out = ended (run j v (script_calls scratch script out)) script scratch out

-- the same script in the reference model, which is handed no job and no volume
abbrev pub model_replay : {μ : ℕ} → Model μ → (script scratch : List ℕ) (out : List ℤ) → ReplayOutcome
model_replay m script scratch out = ended (model_ran m (script_calls scratch script out)) script scratch out
