-- The refusals of entering and withdrawing stand in the papers' order; those of a turn are the job's.
use Rattle.algebra.specs.Prelude.{ℕ, List}
use Rattle.refusals.specs.Orders.{Ordered, of_entering, of_withdrawing}
use Rattle.job.specs.declared.Job.{Job}
use Rattle.scheduler.specs.declared.Scheduler.{Scheduler}
use Rattle.scheduler.specs.Scheduler.{enter_tests, withdraw_tests}

pub record SchedulerRefusals : Type 0 where
  pub entering :
      (s : Scheduler) (d : ℕ) (j : Job) (v : List ℕ) (scratch : ℕ) →
      Ordered (enter_tests s d j v scratch) of_entering
  pub withdrawing : (s : Scheduler) (d : ℕ) → Ordered (withdraw_tests s d) of_withdrawing
