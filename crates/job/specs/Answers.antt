-- What a call of a job returned and left, in the words of its promise: the left side of each promise.
use Rattle.std.specs.Prelude.{ℕ, ℤ, List, Result, Ok, Err}
use Rattle.refusals.specs.Refusals.{number_of}
use Rattle.refusals.specs.declared.Refusal.{Refusal}
use Rattle.refusals.specs.Checks.{checked_number}
use Rattle.signed.specs.Integers.{pos}
use Rattle.numbers.specs.declared.Pair.{Pair}
use Rattle.job.specs.declared.Job.{Job}
use Rattle.job.specs.declared.reply.Reply.{Reply}
use Rattle.job.specs.Job.{Opening, opened, not_opened, OpenOutcome, Said, done, density, factor, power, refused}
use Rattle.job.specs.Job.{Outcome, Worked}
use Rattle.job.specs.Turns.{TurnOutcome}

-- what the answers say
abbrev pub said_open : Result Job Refusal → Opening
said_open (Ok j) = opened j
said_open (Err r) = not_opened (number_of r) 0

-- of a record, a synthesis and an analysis
abbrev pub said : Result Job Refusal → Said
said (Ok j) = done
said (Err r) = refused (number_of r)

abbrev pub said_point : Result ℤ Refusal → Said
said_point (Ok n) = density n
said_point (Err r) = refused (number_of r)

abbrev pub said_factor : Result Pair Refusal → Said
said_factor (Ok x) = factor x.re x.im
said_factor (Err r) = refused (number_of r)

abbrev pub said_power : Result ℕ Refusal → Said
said_power (Ok n) = power n
said_power (Err r) = refused (number_of r)

-- the job from then on: of a refused call the one that was handed in
abbrev pub job_after : Job → Result Job Refusal → Job
job_after held (Ok j) = j
job_after held (Err r) = held

-- An answer as three numbers: the refusal's number or 0, then the density and 0, or the two numbers of the factor, or
-- the power and 0, or twice 0.
abbrev pub reply_of : Said → Reply
reply_of done = record { number = 0; x = pos 0; y = pos 0 }
reply_of (density n) = record { number = 0; x = n; y = pos 0 }
reply_of (factor x y) = record { number = 0; x = pos x; y = pos y }
reply_of (power n) = record { number = 0; x = pos n; y = pos 0 }
reply_of (refused n) = record { number = n; x = pos 0; y = pos 0 }

-- A reading lends the volume only to be read, and gives no job back.
abbrev pub open_outcome : Result Job Refusal → List ℕ → OpenOutcome
open_outcome r v = record { answer = said_open r; volume = v }

abbrev pub outcome : Job → Result Job Refusal → List ℕ → Outcome
outcome held r v = record { answer = said r; job = job_after held r; volume = v }

abbrev pub worked : Job → Result Job Refusal → (v scratch : List ℕ) → Worked
worked held r v s = record { outcome = outcome held r v; scratch = s }

-- a turn of one line gives no job back
abbrev pub turn_outcome : Result (Unit {0}) Refusal → (v scratch : List ℕ) → TurnOutcome
turn_outcome r v s = record { answer = checked_number r; volume = v; scratch = s }
