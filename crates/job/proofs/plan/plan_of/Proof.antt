-- The plan of the job's own cell.
use borrow.Author.Rules.{rules}
use Rattle.job.proofs.plan.plan_of.Statement.{statement}
use Rattle.job.proofs.plan.plan_of.Tie as tie

unit_cell-requires : tie.Need-unit_cell-requires
unit_cell-requires c κs = search rules

returns : tie.Need-returns
returns c = rw c.unit_cell.ensures

pub plan_of_spec : {M : Type 1} → statement M
plan_of_spec = tie.close (tie.spec unit_cell-requires returns)
