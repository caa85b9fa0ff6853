use Rattle.std.proofs.Common.{◌≡◌, ℕ, ◌<◌, ◌≤◌, ap, ◌∙◌, subst}
use Rattle.cell.specs.declared.operations.UnitCell.{UnitCell}
use Rattle.cell.specs.Operations.{cell_group, cell_halves}
use Rattle.cell.specs.Volume.{layers}
use Rattle.algebra.proofs.cells.Passing.{passing_start, passing_next, passing_stop, passing_done}
use Rattle.job.specs.declared.Job.{Job}
use Rattle.job.specs.Job.{group_in, halves, job_cell}
use Rattle.printing.specs.Text.{prints_residues}
use Rattle.printing.proofs.map_text.residues.prints_residues.Goals as goal

-- how many planes there are, in the job's own words
counted : (j : Job) {n : ℕ} {cell : UnitCell} → n ≡ layers (cell_group cell) (cell_halves cell) → cell ≡ job_cell j → n ≡ layers (group_in j) (halves j)
counted j e f = e ∙ ap (λ (k : UnitCell). layers (cell_group k) (cell_halves k)) f

-- a plane of the loop is stored
stored : (j : Job) {n z : ℕ} {cell : UnitCell} → n ≡ layers (cell_group cell) (cell_halves cell) → cell ≡ job_cell j → z < n → z < layers (group_in j) (halves j)
stored j {z = z} e f = subst (λ (m : ℕ). z < m) (counted j e f)

pub loop-z-init : goal.loop-z-init
loop-z-init c = passing_start _ _

pub plane_residues-requires : goal.plane_residues-requires
plane_residues-requires c = (c.requires, stored c.args.job c.layer_count-planes.ensures c.unit_cell.ensures c.loop-z-test.true)

pub loop-z-preserved : goal.loop-z-preserved
loop-z-preserved c = passing_next c.loop-z.invariant (stored c.args.job c.layer_count-planes.ensures c.unit_cell.ensures c.loop-z-test.true) c.plane_residues.ensures c.if-not-plane_residues.false

pub returns-then-not-plane_residues : goal.returns-then-not-plane_residues
unfolding prints_residues
returns-then-not-plane_residues c = passing_stop c.loop-z.invariant (stored c.args.job c.layer_count-planes.ensures c.unit_cell.ensures c.loop-z-test.true) c.plane_residues.ensures c.if-not-plane_residues.true

pub returns : goal.returns
unfolding prints_residues
returns c = passing_done c.loop-z.invariant (subst (λ (n : ℕ). n ≤ c.loop-z.z) (counted c.args.job c.layer_count-planes.ensures c.unit_cell.ensures) c.loop-z-test.false)
