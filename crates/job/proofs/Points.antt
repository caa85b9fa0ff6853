-- A point that is read: what the reading answers, refused or accepted.
use mathlib.Core.Path.{◌≡◌, ◌∙◌, ap}
use mathlib.Core.List.{List}
use Prim.Native.Nat.{ℕ}
use lib.ListN.{get_or}
use Rattle.refusals.specs.declared.Refusal.{Refusal}
use Rattle.refusals.specs.Refusals.{number_of, first}
use Rattle.refusals.proofs.Tests.{fails, passes}
use Rattle.cell.specs.Volume.{density_place}
use Rattle.job.specs.declared.Job.{Job}
use Rattle.job.specs.declared.GridPoint.{GridPoint}
use Rattle.signed.specs.Integers.{centred}
use Rattle.numbers.specs.Value.{prime}
use Rattle.job.specs.Job.{group_in, halves, position, point_step, unchanged, density, refused, Outcome}
use Rattle.job.specs.TestSteps.{point_tests}

module _ (j : Job) (at : GridPoint) (v : List ℕ) where
  pub point_refused : (r : Refusal) → number_of r ≡ first (point_tests j (position at) v) → refused (number_of r) ≡ (point_step j at v).answer
  unfolding point_step
  point_refused r e = ap (λ (o : Outcome). o.answer) (fails r _ _ (unchanged j v) e)

  pub point_read : (q : ℕ) → 0 ≡ first (point_tests j (position at) v) → q ≡ density_place (group_in j) (halves j) (position at) → density (centred (prime j.modulus) (get_or v q 0)) ≡ (point_step j at v).answer
  unfolding point_step
  point_read q e s = ap (λ (k : ℕ). density (centred (prime j.modulus) (get_or v k 0))) s ∙ ap (λ (o : Outcome). o.answer) (passes _ _ (unchanged j v) e)
