-- Fourteen bytes are counted for each record.
use borrow.Author.Rules.{rules}
use native.Mathlib.Omega.{arith}
use mathlib.Core.Path.{ap}
use lib.ListN.{length, length-map}
use Rattle.algebra.specs.cells.Cell.{places_of}
use Rattle.cell.specs.Operations.{cell_group, cell_halves}
use Rattle.file_format.specs.Parsed.{file_record}
use Rattle.file_format.proofs.layout.ByteLaws.{length_all}
use Rattle.factor_file.specs.File.{records_at}
use Rattle.factor_file.specs.Steps.{records_with}
use Rattle.factor_file.proofs.file.RecordLaws.{cell_places, cell_few}
use Rattle.factor_file.proofs.file.records.count_records.Statement.{statement}
use Rattle.factor_file.proofs.file.records.count_records.Tie as tie

slice_bounds-put_records-end : tie.Need-slice_bounds-put_records-end
slice_bounds-put_records-end c = search rules

put_records-requires : tie.Need-put_records-requires
put_records-requires c κs =
    let v = c.args.volume.now in
    let m = c.args.modulus in
    let z = c.requires.volume.sizes in
    let some = records_at (cell_group c.args.cell) (cell_halves c.args.cell) m v in
    let most = ap (λ t. length (some t)) (cell_places z) in
    (c.requires, record { low = omega (arith, length_all (records_with c.args.cell m v), length-map (some (places_of (cell_halves c.args.cell))) (file_record m), most, cell_few z m v) })

returns : tie.Need-returns
returns c =
    let a = c.args in
    omega (arith, c.put_records.ensures.place, length_all (records_with a.cell a.modulus a.volume.now))

pub count_records_spec : {M : Type 1} → statement M
count_records_spec = tie.close (tie.spec slice_bounds-put_records-end put_records-requires returns)
