-- An opening and a record leave the volume as long as it was, refused or accepted.
use mathlib.Core.Path.{◌≡◌, refl}
use mathlib.Core.Bool.{Bool, true, false, cond}
use mathlib.Core.List.{List}
use Prim.Native.Nat.{ℕ, zero, suc}
use lib.ListN.{length, replicate, length-replicate}
use lib.Dec.{eqb}
use Rattle.algebra.specs.cells.Cell.{full}
use Rattle.numbers.specs.Value.{value}
use Rattle.refusals.specs.Refusals.{first, accepted}
use Rattle.cell.specs.Consistency.{record_on}
use Rattle.cell.proofs.Writing.{length_images}
use Rattle.job.specs.declared.Job.{Job}
use Rattle.job.specs.declared.Reflection.{Reflection}
use Rattle.job.specs.Job.{Header, job_of, collecting, map_held, group_in, halves, open_tests, open_step, OpenOutcome, opened, not_opened, record_tests, record_step, Outcome, done, unchanged, index}

pub open_length : (m : ℕ) (h : Header) (kind : ℕ) (v : List ℕ) → length (open_step m h kind v).volume ≡ length v
unfolding open_step
open_length m h kind v = by (first (open_tests m h kind v)) (eqb kind 0)
  where
    by : (n : ℕ) (b : Bool) → length (accepted {O = OpenOutcome} n (cond b (record { answer = opened (job_of m h collecting); volume = replicate (length v) 0 }) (record { answer = opened (job_of m h map_held); volume = v })) (λ n. record { answer = not_opened n 0; volume = v })).volume ≡ length v
    by zero true = length-replicate (length v) 0
    by zero false = refl
    by (suc n) b = refl

pub record_length : (j : Job) (at : Reflection) (x y : ℕ) (v : List ℕ) → length (record_step j at x y v).volume ≡ length v
unfolding record_step
record_length j at x y v = by (first (record_tests j (index at) x y v))
  where
    by : (n : ℕ) → length (accepted n (record { answer = done; job = j; volume = record_on (group_in j) (halves j) j.modulus (index at) (value j.modulus x y) v }) (unchanged j v)).volume ≡ length v
    by zero = length_images (group_in j) (halves j) j.modulus (index at) (value j.modulus x y) (full (group_in j)) v
    by (suc n) = refl
