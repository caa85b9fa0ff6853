-- z, x and the values from the row's first number on; they lie in the volume.
use borrow.Author.Rules.{rules}
use mathlib.Core.Path.{◌≡◌, ◌∙◌, ap}
use mathlib.Core.List.{[], ◌∷◌, ◌++◌}
use Prim.Native.Nat.{◌*◌}
use native.Mathlib.Omega.{arith}
use Rattle.output.specs.Output.{line_feed}
use Rattle.output.specs.Written.{Ends}
use Rattle.cell.specs.declared.operations.UnitCell.{UnitCell}
use Rattle.cell.specs.Operations.{cell_group, cell_halves}
use Rattle.cell.specs.Volume.{pair_place}
use Rattle.job.specs.Job.{group_in, halves}
use Rattle.printing.specs.Text.{row_line}
use Rattle.output.proofs.Writing.{wrote_append, ends_left, ends_right}
use Rattle.printing.proofs.map_text.Printing.{printable_sizes, printable_modulus, values_from, values, row_asked, row_inside, row_values, row_residues_lem, residues_of_row}
use Rattle.printing.proofs.map_text.text.put_row.Statement.{statement}
use Rattle.printing.proofs.map_text.text.put_row.Tie as tie

modulus-p-requires : tie.Need-modulus-p-requires
modulus-p-requires c κs = printable_modulus c.requires.0.0.fitting

unit_cell-requires : tie.Need-unit_cell-requires
unit_cell-requires c κs = search rules

pair_place-start-requires : tie.Need-pair_place-start-requires
pair_place-start-requires c κs = let p = c.requires.0 in rw c.unit_cell.ensures (row_asked p.0.fitting p.1 p.2)

overflow_mul-start : tie.Need-overflow_mul-start
overflow_mul-start c = search rules

put_decimal-plane-requires : tie.Need-put_decimal-plane-requires
unfolding row_line
put_decimal-plane-requires c κs = ends_left _ _ c.requires.1

put_field-row-requires : tie.Need-put_field-row-requires
unfolding row_line
put_field-row-requires c κs =
    ends_left _ _ (ends_right _ c.put_decimal-plane.ensures c.requires.1)

overflow_cast-n2 : tie.Need-overflow_cast-n2
overflow_cast-n2 c = omega (arith, (printable_sizes c.requires.0.0.fitting).second.high)

-- the place of the row's first pair, in the job's own words
placed : (c : tie.After-pair_place-start) → c.pair_place-start.result ≡ pair_place (group_in c.args.job) (halves c.args.job) c.args.z c.args.x 0
placed c =
    c.pair_place-start.ensures.0 ∙ ap (λ (k : UnitCell). pair_place (cell_group k) (cell_halves k) c.args.z c.args.x 0) c.unit_cell.ensures

-- the values as they are written are those of the row
are-values : (c : tie.After-pair_place-start) → values_from c.modulus-p.result c.args.volume.now (2 * c.pair_place-start.result) c.args.job.b.length ≡ values c.args.job c.args.volume.now c.args.z c.args.x
are-values c = let p = c.requires.0 in row_values p.0.fitting p.1 p.2 (placed c) c.modulus-p.ensures.0

-- what follows the row's x ends too
rest : (c : tie.After-put_field-row) → Ends c.put_field-row.result (values_from c.modulus-p.result c.args.volume.now (2 * c.pair_place-start.result) c.args.job.b.length ++ line_feed ∷ [])
unfolding row_line
rest c =
    let w1 = c.before.before.before.before in
    let q = w1.before.before in
    rw (are-values q) (ends_right _ c.put_field-row.ensures (ends_right _ w1.put_decimal-plane.ensures q.requires.1))

put_values-values-requires : tie.Need-put_values-values-requires
put_values-values-requires c κs =
    let w2 = c.before.before.before in
    let q = w2.before.before.before.before.before.before in
    let p = q.requires.0 in
    ((row_inside p.0.fitting p.1 p.2 (placed q), row_residues_lem p.0.fitting p.1 p.2 (placed q) q.modulus-p.ensures.0 ∙ residues_of_row p.0 p.1 p.2, q.modulus-p.ensures.2), ends_left _ _ (rest w2))

put_byte-requires : tie.Need-put_byte-requires
put_byte-requires c κs =
    let w3 = c.before.before.before in
    ends_right _ w3.put_values-values.ensures (rest w3.before.before.before.before)

shape_of-out : tie.Need-shape_of-out
shape_of-out c = search rules

returns : tie.Need-returns
unfolding row_line
returns c =
    let w4 = c.before.before in
    let w3 = w4.before.before.before.before in
    let w2 = w3.before.before.before.before in
    let w1 = w2.before.before.before.before in
    rw (← are-values w1.before.before) (wrote_append w1.put_decimal-plane.ensures (wrote_append w2.put_field-row.ensures (wrote_append w3.put_values-values.ensures w4.put_byte.ensures)))

pub put_row_spec : {M : Type 1} → statement M
put_row_spec =
    tie.close
    (tie.spec modulus-p-requires unit_cell-requires pair_place-start-requires overflow_mul-start put_decimal-plane-requires put_field-row-requires overflow_cast-n2 put_values-values-requires put_byte-requires shape_of-out returns)
