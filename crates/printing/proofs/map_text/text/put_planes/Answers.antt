use Rattle.std.proofs.Common.{◌≡◌, ℕ, ◌<◌, List, ap, ◌∙◌, subst, arith}
use Rattle.cell.specs.declared.operations.UnitCell.{UnitCell}
use Rattle.cell.specs.Operations.{cell_group, cell_halves}
use Rattle.cell.specs.Volume.{layers}
use Rattle.job.specs.declared.Job.{Job}
use Rattle.job.specs.Job.{group_in, halves, job_cell}
use Rattle.output.specs.Output.{each}
use Rattle.output.specs.Written.{Wrote}
use Rattle.printing.specs.Text.{row_line}
use Rattle.output.proofs.Writing.{each_none, each_ends, each_next, each_done}
use Rattle.printing.proofs.map_text.text.put_planes.Goals as goal

abbrev plane : Job → List ℕ → ℕ → List ℕ
plane job volume z = each job.a.length (λ x. row_line job volume z x)

-- how many planes there are, in the job's own words
counted : (j : Job) {n : ℕ} {cell : UnitCell} → n ≡ layers (cell_group cell) (cell_halves cell) → cell ≡ job_cell j → n ≡ layers (group_in j) (halves j)
counted j e f = e ∙ ap (λ (k : UnitCell). layers (cell_group k) (cell_halves k)) f

-- a plane of the loop is stored
stored : (j : Job) {n z : ℕ} {cell : UnitCell} → n ≡ layers (cell_group cell) (cell_halves cell) → cell ≡ job_cell j → z < n → z < layers (group_in j) (halves j)
stored j {z = z} e f = subst (λ (m : ℕ). z < m) (counted j e f)

pub loop-z-init : goal.loop-z-init
loop-z-init c = each_none _ _ _

pub put_plane-place-requires : goal.put_plane-place-requires
put_plane-place-requires c =
    record {
      printable = (c.requires.printable, stored c.args.job c.layer_count-planes.ensures c.unit_cell.ensures c.loop-z-test.true);
      ends = each_ends (plane c.args.job c.args.volume.now) c.requires.ends (stored c.args.job c.layer_count-planes.ensures c.unit_cell.ensures c.loop-z-test.true) c.loop-z.invariant;
    }

pub loop-z-preserved : goal.loop-z-preserved
loop-z-preserved c = each_next (plane c.args.job c.args.volume.now) c.loop-z.invariant c.put_plane-place.ensures

pub returns : goal.returns
returns c =
    let f = plane c.args.job c.args.volume.now in
    subst (λ (n : ℕ). Wrote c.args.at (each n f) c.args.out.now c.loop-z.place c.loop-z.out) (counted c.args.job c.layer_count-planes.ensures c.unit_cell.ensures) (each_done f (omega arith) c.loop-z-test.false c.loop-z.invariant)
