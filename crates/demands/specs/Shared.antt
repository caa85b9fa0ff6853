-- A synthesis that shares a scheduler with others: its entering and its turns stand in a job's list of calls as one
-- synthesis.
use Rattle.std.specs.Prelude.{◌≡◌, ◌∷◌}
use Rattle.algebra.specs.Prelude.{ℕ, List, [], map}
use Rattle.job.specs.declared.Job.{Job}
use Rattle.job.specs.Job.{Call, synthesis, Outcome, done, step}
use Rattle.model.specs.Model.{Model}
use Rattle.scheduler.specs.declared.Scheduler.{Scheduler}
use Rattle.scheduler.specs.Scheduler as Lanes
use Rattle.scheduler.specs.Scheduler.{enter_step, turn_step}
use Rattle.scheduler.specs.Schedules.{Follows}
use Rattle.demands.specs.Demands.{Start, Started, Ran, answering, run, model_ran}

-- The calls of a shared synthesis: an entering of a lane, lent a scratch, on the scheduler before it; the calls on the
-- scheduler between, whoever's they are; and the turn that finishes the lane, on the scheduler after them, with the
-- volume and the scratch that it is lent.
pub record Sharing : Type 0 where
  pub before : Scheduler
  pub lane : ℕ
  pub scratch : List ℕ
  pub between : List Lanes.Call
  pub after : Scheduler
  pub volume : List ℕ
  pub last_scratch : List ℕ

-- an item of a list: a call, or a shared synthesis
pub data Item : Type 0 where
  calling : Call → Item
  sharing : Sharing → Item

-- the entering and the finishing turn
abbrev pub entered : Job → List ℕ → Sharing → Lanes.Outcome
entered j v x = enter_step x.before x.lane j v x.scratch

abbrev pub finishing : Sharing → Lanes.Outcome
finishing x = turn_step x.after x.volume x.last_scratch

-- the job that a finishing turn gives
abbrev pub given : Lanes.Said → Job → Job
given Lanes.done j = j
given (Lanes.next d) j = j
given (Lanes.served d) j = j
given (Lanes.finished d k) j = k
given Lanes.idle j = j
given (Lanes.refused n) j = j

-- what an item answers and leaves
abbrev pub item_step : Job → List ℕ → Item → Outcome
item_step j v (calling c) = step j v c
item_step j v (sharing x) =
    record { answer = done; job = given (finishing x).answer j; volume = (finishing x).volume }

-- A shared synthesis is finished: the entering was accepted; the lane stayed, and each of its turns was lent the volume
-- that its last one left, the first that of its entering; and the last turn finished the lane.
pub record SharingFinished (j : Job) (v : List ℕ) (x : Sharing) : Type 0 where
  pub begun : (entered j v x).answer ≡ Lanes.done
  pub followed :
      let o = entered j v x in
      Follows x.lane o.scheduler o.volume x.between x.after x.volume
  pub ended : (k : Job) × ((finishing x).answer ≡ Lanes.finished x.lane k)

-- of a call nothing is asked
abbrev pub Finished : Job → List ℕ → Item → Type 0
Finished j v (calling c) = Unit
Finished j v (sharing x) = SharingFinished j v x

-- a list of items, each handed the job and the volume that the one before left
unfoldable pub run_items : Job → List ℕ → List Item → Ran
run_items j v [] = record { answers = []; job = j; volume = v }
run_items j v (x ∷ l) =
    let o = item_step j v x in
    answering o.answer (run_items o.job o.volume l)

unfoldable pub AllFinished : Job → List ℕ → List Item → Type 0
AllFinished j v [] = Unit
AllFinished j v (x ∷ l) = Finished j v x × AllFinished (item_step j v x).job (item_step j v x).volume l

-- the call that an item stands for
abbrev pub as_call : Item → Call
as_call (calling c) = c
as_call (sharing x) = synthesis x.scratch

-- So finished, an entering and its turns are one synthesis: a list of items answers and leaves what the list of calls
-- does, and so what the model says; every other statement about lists of calls holds of it.
pub record SharedSynthesis : Type 0 where
  pub same :
      (j : Job) (v : List ℕ) (l : List Item)
      → AllFinished j v l
      → run_items j v l ≡ run j v (map as_call l)
  pub runs :
      (μ : ℕ) (s : Start μ) (j : Job) (v : List ℕ) (m : Model μ) (l : List Item)
      → Started s j v m
      → AllFinished j v l
      → run_items j v l ≡ model_ran m (map as_call l)
