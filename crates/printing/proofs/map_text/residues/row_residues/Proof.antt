-- The numbers from the row's first on; they lie in the volume.
use borrow.Author.Rules.{rules}
use mathlib.Core.Path.{◌≡◌, ◌∙◌, ap}
use native.Mathlib.Omega.{arith}
use Rattle.cell.specs.declared.operations.UnitCell.{UnitCell}
use Rattle.cell.specs.Operations.{cell_group, cell_halves}
use Rattle.cell.specs.Volume.{pair_place}
use Rattle.job.specs.Job.{group_in, halves}
use Rattle.printing.proofs.map_text.Printing.{printable_modulus, row_asked, row_inside, row_residues_lem}
use Rattle.printing.proofs.map_text.residues.row_residues.Statement.{statement}
use Rattle.printing.proofs.map_text.residues.row_residues.Tie as tie

-- the place of the row's first pair, in the job's own words
placed : (c : tie.After-pair_place-start) → let s = c.before.before.before.before in c.pair_place-start.result ≡ pair_place (group_in s.args.job) (halves s.args.job) s.args.z s.args.x 0
placed c =
    let s = c.before.before.before.before in
    c.pair_place-start.ensures.0 ∙ ap (λ (k : UnitCell). pair_place (cell_group k) (cell_halves k) s.args.z s.args.x 0) c.before.unit_cell.ensures

-- the modulus of a job that can be printed
modulus-p-requires : tie.Need-modulus-p-requires
modulus-p-requires c κs = printable_modulus c.before.requires.0

unit_cell-requires : tie.Need-unit_cell-requires
unit_cell-requires c κs = search rules

pair_place-start-requires : tie.Need-pair_place-start-requires
pair_place-start-requires c κs = let f = c.before.before.before.requires in rw c.unit_cell.ensures (row_asked f.0 f.1 f.2)

overflow_mul-start : tie.Need-overflow_mul-start
overflow_mul-start c = search rules

overflow_cast-n2 : tie.Need-overflow_cast-n2
overflow_cast-n2 c = search rules

are_residues-requires : tie.Need-are_residues-requires
are_residues-requires c κs = let f = c.before.before.before.before.requires in row_inside f.0 f.1 f.2 (placed c)

returns : tie.Need-returns
returns c = let q = c.before in let f = q.before.before.before.before.requires in c.are_residues.ensures ∙ row_residues_lem f.0 f.1 f.2 (placed q) q.before.before.modulus-p.ensures.0

pub row_residues_spec : {M : Type 1} → statement M
row_residues_spec =
    tie.close
    (tie.spec modulus-p-requires unit_cell-requires pair_place-start-requires overflow_mul-start overflow_cast-n2 are_residues-requires returns)
