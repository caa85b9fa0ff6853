-- A structure factor that is read or recorded: what either call answers and leaves, refused or accepted.
use mathlib.Core.Path.{◌≡◌, ◌∙◌, ap}
use mathlib.Core.List.{List}
use Prim.Native.Nat.{ℕ}
use Rattle.numbers.specs.declared.Pair.{Pair}
use Rattle.numbers.specs.Value.{value_of, pair_of}
use Rattle.refusals.specs.declared.Refusal.{Refusal}
use Rattle.refusals.specs.Refusals.{number_of, first}
use Rattle.refusals.proofs.Tests.{fails, passes}
use Rattle.cell.specs.Volume.{factors_in}
use Rattle.cell.specs.Consistency.{record_on}
use Rattle.job.proofs.check.record.Reflections.{pair_of_numbers}
use Rattle.job.specs.declared.Job.{Job}
use Rattle.job.specs.declared.Reflection.{Reflection}
use Rattle.std.specs.Prelude.{Ok, Err}
use Rattle.job.specs.Job.{group_in, halves, index, factor_step, record_tests, record_step, unchanged, factor, refused, Outcome}
use Rattle.job.specs.TestSteps.{factor_tests}
use Rattle.job.specs.Answers.{outcome}

module _ (j : Job) (at : Reflection) (v : List ℕ) where
  pub factor_refused : (r : Refusal) → number_of r ≡ first (factor_tests j (index at) v) → refused (number_of r) ≡ (factor_step j at v).answer
  unfolding factor_step
  factor_refused r e = ap (λ (o : Outcome). o.answer) (fails r _ _ (unchanged j v) e)

  pub factor_read : (x : Pair) → 0 ≡ first (factor_tests j (index at) v) → x ≡ pair_of (factors_in (group_in j) (halves j) j.modulus v at.0 at.1 at.2) → factor x.re x.im ≡ (factor_step j at v).answer
  unfolding factor_step pair_of
  factor_read x e s = ap (λ (z : Pair). factor z.re z.im) s ∙ ap (λ (o : Outcome). o.answer) (passes _ _ (unchanged j v) e)

  module _ (x y : ℕ) where
    pub record_refused : (r : Refusal) → number_of r ≡ first (record_tests j (index at) x y v) → outcome j (Err r) v ≡ record_step j at x y v
    unfolding record_step
    record_refused r e = fails r _ _ (unchanged j v) e

    pub record_written : (v' : List ℕ) → 0 ≡ first (record_tests j (index at) x y v) → v' ≡ record_on (group_in j) (halves j) j.modulus (index at) (value_of j.modulus (record { re = x; im = y })) v → outcome j (Ok j) v' ≡ record_step j at x y v
    unfolding record_step
    record_written v' e s = ap (λ (w : List ℕ). outcome j (Ok j) w) (s ∙ ap (λ z. record_on (group_in j) (halves j) j.modulus (index at) z v) (pair_of_numbers j.modulus x y)) ∙ passes _ _ (unchanged j v) e
