-- What the calls of a scheduler return and leave as numbers, from what their definitions say: the answer, then the
-- buffers.
use Rattle.std.specs.Prelude.{List, ℕ}
use Rattle.job.specs.declared.Job.{Job}
use Rattle.scheduler.specs.declared.Scheduler.{Scheduler}
use Rattle.scheduler.specs.Scheduler.{Said, done, next, served, finished, idle, refused, Outcome}
use Rattle.exported.specs.declared.lanes.NextCoded.{NextCoded}
use Rattle.exported.specs.declared.lanes.LaneCoded.{LaneCoded}
use Rattle.exported.specs.declared.lanes.TurnCoded.{TurnCoded}
use Rattle.exported.specs.Answers.{no_job}

-- the number of a refusal, 0 where nothing is refused
abbrev pub number_in : Said → ℕ
number_in (refused n) = n
number_in done = 0
number_in (next d) = 0
number_in (served d) = 0
number_in (finished d j) = 0
number_in idle = 0

-- the lane that is named, 1 to 8, or 0 for none
abbrev pub lane_in : Said → ℕ
lane_in (next d) = d
lane_in (served d) = d
lane_in (finished d j) = d
lane_in done = 0
lane_in idle = 0
lane_in (refused n) = 0

-- 1 where a lane is finished, else 0
abbrev pub finished_in : Said → ℕ
finished_in (finished d j) = 1
finished_in done = 0
finished_in (next d) = 0
finished_in (served d) = 0
finished_in idle = 0
finished_in (refused n) = 0

-- the job that a finishing turn gives, map held; all zeros where none does
abbrev pub job_in : Said → Job
job_in (finished d j) = j
job_in done = no_job
job_in (next d) = no_job
job_in (served d) = no_job
job_in idle = no_job
job_in (refused n) = no_job

abbrev pub next_coded : Said → NextCoded
next_coded a = record { number = number_in a; lane = lane_in a }

-- entering and withdrawing
abbrev pub stepped_coded : Said → Scheduler → LaneCoded
stepped_coded a s = record { number = number_in a; scheduler = s }

abbrev pub lane_coded : Outcome → LaneCoded
lane_coded o = stepped_coded o.answer o.scheduler

abbrev pub enter_coded : Outcome → LaneCoded × List ℕ
enter_coded o = (lane_coded o, o.scratch)

abbrev pub turned_coded : Said → Scheduler → TurnCoded
turned_coded a s =
    record { number = number_in a; lane = lane_in a; finished = finished_in a; job = job_in a; scheduler = s }

abbrev pub turn_coded : Outcome → TurnCoded × List ℕ × List ℕ
turn_coded o = (turned_coded o.answer o.scheduler, o.volume, o.scratch)
