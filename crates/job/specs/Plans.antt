-- A job's numbers as the plan of the lines of its volume.
use Rattle.std.specs.Prelude.{ℕ}
use Rattle.volume_transform.specs.declared.plan.Plan.{Plan}
use Rattle.job.specs.declared.Job.{Job}
use Rattle.job.specs.Job.{job_cell}

abbrev pub plan_of : Job → (direction : ℕ) → Plan
plan_of j direction = record {
  m = j.modulus;
  direction = direction;
  cell = job_cell j;
  f1 = j.a.factors;
  f2 = j.b.factors;
  f3 = j.c.factors;
}
