-- The refusals of the call stand in the papers' order; and what 27 and 14 say.
use Rattle.std.specs.Prelude.{◌≡◌}
use Rattle.algebra.specs.Prelude.{ℕ, List}
use Rattle.signed.specs.Integers.{ℤ}
use Rattle.refusals.specs.Orders.{Ordered, RefusedUnless, of_combining}
use Rattle.cell.specs.Exactly.{MapConsistent}
use Rattle.output.specs.Output.{Filled.not_written}
use Rattle.job.specs.declared.Job.{Job}
use Rattle.job.specs.Job.{group_in, halves}
use Rattle.combining.specs.Combining.{combine_tests, combine_step}

-- the two jobs do not differ in group or lengths, and their moduli are 1 and 2 in order
pub record OneCell (i j : Job) : Type 0 where
  pub group : i.group ≡ j.group
  pub n1 : i.a.length ≡ j.a.length
  pub n2 : i.b.length ≡ j.b.length
  pub n3 : i.c.length ≡ j.c.length
  pub first : i.modulus ≡ 1
  pub second : j.modulus ≡ 2

-- each volume is the map, with its zeros, of some cell that obeys the group
pub record BothMaps (i : Job) (v w : List ℕ) : Type 0 where
  pub first : MapConsistent (group_in i) (halves i) 1 v
  pub second : MapConsistent (group_in i) (halves i) 2 w

pub record CombineRefusals : Type 0 where
  pub ordered : (i j : Job) (v w : List ℕ) (room : ℕ) → Ordered (combine_tests i j v w room) of_combining
  pub cells :
      (i : Job) (v : List ℕ) (j : Job) (w : List ℕ) (output : List ℤ) →
      RefusedUnless not_written of_combining 27 (combine_step i v j w output).answer (OneCell i j)
  pub maps :
      (i : Job) (v : List ℕ) (j : Job) (w : List ℕ) (output : List ℤ) →
      RefusedUnless not_written of_combining 14 (combine_step i v j w output).answer (BothMaps i v w)
