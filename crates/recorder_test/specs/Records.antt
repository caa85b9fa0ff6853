-- The records of the test's input that say or keep a job. A record is eleven numbers: the operation first; a job from
-- the third on.
use Rattle.std.specs.Prelude.{◌≡◌, List, [], ◌∷◌, ℕ, ◌+◌, ◌<◌, get_or}
use Rattle.job.specs.declared.Axis.{Axis}
use Rattle.job.specs.declared.Job.{Job}

-- the nine numbers of a job
abbrev pub numbers_of : Job → List ℕ
numbers_of j =
    j.group ∷ j.modulus ∷ j.a.length ∷ j.a.factors ∷ j.b.length ∷ j.b.factors ∷ j.c.length ∷
    j.c.factors ∷ j.state ∷ []

-- the axis at place i of a record, and the job
abbrev pub axis_in : List ℕ → ℕ → Axis
axis_in r i = record { length = get_or r i 0; factors = get_or r (i + 1) 0 }

abbrev pub job_in : List ℕ → Job
job_in r =
    record {
      group = get_or r 2 0;
      modulus = get_or r 3 0;
      a = axis_in r 4;
      b = axis_in r 6;
      c = axis_in r 8;
      state = get_or r 10 0;
    }

-- The job after a record: operation 4 says it, 0 and 1 are openings, and any other keeps the job before.
pub record JobAfter (r : List ℕ) (before after : Job) : Type 0 where
  pub said : get_or r 0 0 ≡ 4 → after ≡ job_in r
  pub kept : 1 < get_or r 0 0 → (get_or r 0 0 ≡ 4 → ⊥) → after ≡ before
