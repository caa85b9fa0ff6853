-- One call of a script, from what the job's own call answered and left.
use mathlib.Core.Path.{◌≡◌, refl, ◌∙◌, sym, ap}
use mathlib.Core.List.{List}
use Prim.Native.Nat.{ℕ, zero, suc, ◌≤◌}
use native.Mathlib.Omega.{arith}
use lib.ListN.{length}
use Rattle.refusals.specs.Refusals.{first, accepted}
use Rattle.lengths.specs.Lengths.{cleared}
use Rattle.std.specs.Prelude.{Result}
use Rattle.refusals.specs.declared.Refusal.{Refusal}
use Rattle.job.specs.declared.Job.{Job}
use Rattle.job.specs.declared.Reflection.{Reflection}
use Rattle.job.specs.declared.GridPoint.{GridPoint}
use Rattle.job.specs.Job.{with_state, factors_held, map_held, Said, done, Outcome, Worked, unchanged, position, index, record_step, synthesised, synthesis_step, analysed, analysis_step, point_step, factor_step, map_power_step, factor_power_step}
use Rattle.job.specs.TestSteps.{synthesis_tests, analysis_tests, point_tests, factor_tests, map_power_tests, factor_power_tests}
use Rattle.job.specs.Answers.{said, job_after, outcome, worked, reply_of}
use Rattle.scripts.specs.declared.layout.CallNumbers.{CallNumbers}
use Rattle.scripts.specs.Script.{Call, recording, synthesis, analysis, read_point, read_factor, read_map_power, read_factor_power, step, call_of, call_at, numbers_at, call_said, cleared_if_done, scratch_left, call_step, call_outcome}
use Rattle.scripts.specs.declared.calls.Called.{Called}

-- ---- what an operation's number stands for

call_other : (s : List ℕ) (o h k l x y : ℕ) → 4 ≤ o → (o ≡ 5 → ⊥) → (o ≡ 6 → ⊥) → read_factor (record { 0 = h; 1 = k; 2 = l }) ≡ call_of s o h k l x y
unfolding call_of
call_other s zero h k l x y p q r = absurd (omega arith)
call_other s (suc zero) h k l x y p q r = absurd (omega arith)
call_other s (suc (suc zero)) h k l x y p q r = absurd (omega arith)
call_other s (suc (suc (suc zero))) h k l x y p q r = absurd (omega arith)
call_other s (suc (suc (suc (suc zero)))) h k l x y p q r = refl
call_other s (suc (suc (suc (suc (suc zero))))) h k l x y p q r = absurd (q refl)
call_other s (suc (suc (suc (suc (suc (suc zero)))))) h k l x y p q r = absurd (r refl)
call_other s (suc (suc (suc (suc (suc (suc (suc o))))))) h k l x y p q r = refl

module _ (s : List ℕ) (n : CallNumbers) where
  pub is_synthesis : n.operation ≡ 1 → synthesis s ≡ call_said s n
  unfolding call_of
  is_synthesis z = rw z refl

  pub is_analysis : n.operation ≡ 2 → analysis s ≡ call_said s n
  unfolding call_of
  is_analysis z = rw z refl

  is_point : n.operation ≡ 3 → read_point (record { 0 = n.h; 1 = n.k; 2 = n.l }) ≡ call_said s n
  unfolding call_of
  is_point z = rw z refl

  is_map_power : n.operation ≡ 5 → read_map_power ≡ call_said s n
  unfolding call_of
  is_map_power z = rw z refl

  is_factor_power : n.operation ≡ 6 → read_factor_power ≡ call_said s n
  unfolding call_of
  is_factor_power z = rw z refl

-- a call by its numbers is the script's
pub call_in_script : (j : Job) (v s script : List ℕ) (i : ℕ) (n : CallNumbers) → n ≡ numbers_at script i → call_step j v s (call_said s n) ≡ call_step j v s (call_at s script i)
call_in_script j v s script i n e = ap (λ (m : CallNumbers). call_step j v s (call_said s m)) e

-- ---- a reading or a power leaves job and volume

abbrev reading : Said → Job → List ℕ → Outcome
reading a j v = record { answer = a; job = j; volume = v }

reading_keeps : (n : ℕ) (a : Said) (j : Job) (v : List ℕ) → reading (accepted n (reading a j v) (unchanged j v)).answer j v ≡ accepted n (reading a j v) (unchanged j v)
reading_keeps zero a j v = refl
reading_keeps (suc n) a j v = refl

module _ (j : Job) (v : List ℕ) where
  point_keeps : (x : GridPoint) → reading (point_step j x v).answer j v ≡ point_step j x v
  unfolding point_step
  point_keeps x = reading_keeps (first (point_tests j (position x) v)) _ j v

  factor_keeps : (k : Reflection) → reading (factor_step j k v).answer j v ≡ factor_step j k v
  unfolding factor_step
  factor_keeps k = reading_keeps (first (factor_tests j (index k) v)) _ j v

  map_power_keeps : reading (map_power_step j v).answer j v ≡ map_power_step j v
  unfolding map_power_step
  map_power_keeps = reading_keeps (first (map_power_tests j v)) _ j v

  factor_power_keeps : reading (factor_power_step j v).answer j v ≡ factor_power_step j v
  unfolding factor_power_step
  factor_power_keeps = reading_keeps (first (factor_power_tests j v)) _ j v

-- ---- synthesis and analysis: an outcome that counts the scratch's length alone, and the scratch

work : ℕ → (after : Outcome) → Job → (v scratch : List ℕ) → Worked
work n after j v s = accepted n (record { outcome = after; scratch = cleared s }) (λ m. record { outcome = unchanged j v m; scratch = s })

work_outcome : (n : ℕ) (after : Outcome) (j : Job) (v s : List ℕ) → (work n after j v s).outcome ≡ accepted n after (unchanged j v)
unfolding work
work_outcome zero after j v s = refl
work_outcome (suc n) after j v s = refl

work_scratch : (n : ℕ) (j' : Job) (v' : List ℕ) (j : Job) (v s : List ℕ) →
    let w = work n (record { answer = done; job = j'; volume = v' }) j v s in w.scratch ≡ cleared_if_done w.outcome.answer s
unfolding work
work_scratch zero j' v' j v s = refl
work_scratch (suc n) j' v' j v s = refl

module _ (j : Job) (v : List ℕ) where
  synthesis_outcome : (s : List ℕ) → (synthesis_step j v s).outcome ≡ accepted (first (synthesis_tests j v (length s))) (record { answer = done; job = with_state j map_held; volume = synthesised j v }) (unchanged j v)
  unfolding synthesis_step work
  synthesis_outcome s = work_outcome (first (synthesis_tests j v (length s))) (record { answer = done; job = with_state j map_held; volume = synthesised j v }) j v s

  synthesis_scratch : (s : List ℕ) → (synthesis_step j v s).scratch ≡ cleared_if_done (synthesis_step j v s).outcome.answer s
  unfolding synthesis_step work
  synthesis_scratch s = work_scratch (first (synthesis_tests j v (length s))) (with_state j map_held) (synthesised j v) j v s

  analysis_outcome : (s : List ℕ) → (analysis_step j v s).outcome ≡ accepted (first (analysis_tests j v (length s))) (record { answer = done; job = with_state j factors_held; volume = analysed j v }) (unchanged j v)
  unfolding analysis_step work
  analysis_outcome s = work_outcome (first (analysis_tests j v (length s))) (record { answer = done; job = with_state j factors_held; volume = analysed j v }) j v s

  analysis_scratch : (s : List ℕ) → (analysis_step j v s).scratch ≡ cleared_if_done (analysis_step j v s).outcome.answer s
  unfolding analysis_step work
  analysis_scratch s = work_scratch (first (analysis_tests j v (length s))) (with_state j factors_held) (analysed j v) j v s

  -- scratches of one length give one outcome
  pub synthesis_by_length : (s s' : List ℕ) → length s ≡ length s' → (synthesis_step j v s).outcome ≡ (synthesis_step j v s').outcome
  synthesis_by_length s s' e = synthesis_outcome s ∙ rw e (sym (synthesis_outcome s'))

  pub analysis_by_length : (s s' : List ℕ) → length s ≡ length s' → (analysis_step j v s).outcome ≡ (analysis_step j v s').outcome
  analysis_by_length s s' e = analysis_outcome s ∙ rw e (sym (analysis_outcome s'))

  -- so every call may be said with another scratch of the same length
  pub call_by_length : (t s s' : List ℕ) (o h k l x y : ℕ) → length s ≡ length s' → call_step j v t (call_of s o h k l x y) ≡ call_step j v t (call_of s' o h k l x y)
  unfolding call_of call_step
  call_by_length t s s' zero h k l x y e = refl
  call_by_length t s s' (suc zero) h k l x y e = rw (synthesis_by_length s s' e)
  call_by_length t s s' (suc (suc zero)) h k l x y e = rw (analysis_by_length s s' e)
  call_by_length t s s' (suc (suc (suc zero))) h k l x y e = refl
  call_by_length t s s' (suc (suc (suc (suc zero)))) h k l x y e = refl
  call_by_length t s s' (suc (suc (suc (suc (suc zero))))) h k l x y e = refl
  call_by_length t s s' (suc (suc (suc (suc (suc (suc zero)))))) h k l x y e = refl
  call_by_length t s s' (suc (suc (suc (suc (suc (suc (suc o))))))) h k l x y e = refl

-- ---- each of the seven calls

module _ (j : Job) (v : List ℕ) (r : Called) where
  -- a call whose job and volume are an outcome's, said as numbers
  of_outcome : (o : Outcome) (c : Call) (s s' : List ℕ) → o ≡ step j v c → r.reply ≡ reply_of o.answer → r.job ≡ o.job → s' ≡ scratch_left c (step j v c).answer s →
      call_outcome r o.volume s' ≡ call_step j v s c
  unfolding call_step
  of_outcome o c s s' e a b t =
      let p = a ∙ ap (λ (q : Outcome). reply_of q.answer) e in
      let d = b ∙ ap (λ (q : Outcome). q.job) e in
      λ i. record { reply = p i; job = d i; volume = (e i).volume; scratch = t i }

  module _ (a : Result Job Refusal) (v' : List ℕ) (says : r.reply ≡ reply_of (said a)) (goes : r.job ≡ job_after j a) where
    pub call_record : (s : List ℕ) (n : CallNumbers) → n.operation ≡ 0 → outcome j a v' ≡ record_step j (record { 0 = n.h; 1 = n.k; 2 = n.l }) n.x n.y v → call_outcome r v' s ≡ call_step j v s (call_said s n)
    unfolding call_of
    call_record s n z e =
        of_outcome (outcome j a v') (recording (record { 0 = n.h; 1 = n.k; 2 = n.l }) n.x n.y) s s e says goes refl
        ∙ rw z refl

    pub call_synthesis : (s s' : List ℕ) → worked j a v' s' ≡ synthesis_step j v s → call_outcome r v' s' ≡ call_step j v s (synthesis s)
    call_synthesis s s' e = of_outcome (outcome j a v') (synthesis s) s s' (ap (λ (w : Worked). w.outcome) e) says goes (ap (λ (w : Worked). w.scratch) e ∙ synthesis_scratch j v s)

    pub call_analysis : (s s' : List ℕ) → worked j a v' s' ≡ analysis_step j v s → call_outcome r v' s' ≡ call_step j v s (analysis s)
    call_analysis s s' e = of_outcome (outcome j a v') (analysis s) s s' (ap (λ (w : Worked). w.outcome) e) says goes (ap (λ (w : Worked). w.scratch) e ∙ analysis_scratch j v s)

  module _ (a : Said) (says : r.reply ≡ reply_of a) (goes : r.job ≡ j) (s : List ℕ) (n : CallNumbers) where
    read : (c : Call) → c ≡ call_said s n → reading (step j v c).answer j v ≡ step j v c → s ≡ scratch_left c (step j v c).answer s → a ≡ (step j v c).answer → call_outcome r v s ≡ call_step j v s (call_said s n)
    read c is keeps same e = of_outcome (reading a j v) c s s (ap (λ (b : Said). reading b j v) e ∙ keeps) says goes same ∙ ap (call_step j v s) is

    pub call_point : n.operation ≡ 3 → a ≡ (point_step j (record { 0 = n.h; 1 = n.k; 2 = n.l }) v).answer → call_outcome r v s ≡ call_step j v s (call_said s n)
    call_point z e = read _ (is_point s n z) (point_keeps j v _) refl e

    pub call_factor : (4 ≤ n.operation) × (n.operation ≡ 5 → ⊥) × (n.operation ≡ 6 → ⊥) → a ≡ (factor_step j (record { 0 = n.h; 1 = n.k; 2 = n.l }) v).answer → call_outcome r v s ≡ call_step j v s (call_said s n)
    call_factor z e = read _ (call_other s _ _ _ _ _ _ z.0 z.1 z.2) (factor_keeps j v _) refl e

    pub call_map_power : n.operation ≡ 5 → a ≡ (map_power_step j v).answer → call_outcome r v s ≡ call_step j v s (call_said s n)
    call_map_power z e = read read_map_power (is_map_power s n z) (map_power_keeps j v) refl e

    pub call_factor_power : n.operation ≡ 6 → a ≡ (factor_power_step j v).answer → call_outcome r v s ≡ call_step j v s (call_said s n)
    call_factor_power z e = read read_factor_power (is_factor_power s n z) (factor_power_keeps j v) refl e
