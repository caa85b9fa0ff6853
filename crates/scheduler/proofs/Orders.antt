-- The order of the refusals of entering and withdrawing.
use mathlib.Core.Path.{refl}
use Rattle.scheduler.specs.Orders.{SchedulerRefusals}

pub scheduler_refusals : SchedulerRefusals
scheduler_refusals = record { entering = λ s d j v scratch. refl; withdrawing = λ s d. refl }
