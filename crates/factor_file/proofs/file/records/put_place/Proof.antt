-- Nothing where j is not the lowest place or its factor is zero, else the record.
use borrow.Author.Rules.{rules}
use native.Mathlib.Omega.{arith}
use mathlib.Core.Path.{◌≡◌, sym, ◌∙◌, ap}
use mathlib.Core.List.{[], ◌∷◌}
use Rattle.numbers.specs.Value.{pair_of}
use Rattle.cell.specs.Operations.{cell_group, cell_halves, triple_of}
use Rattle.output.proofs.Writing.{wrote_none, wrote_as, ends_as}
use Rattle.file_format.specs.Format.{all_bytes}
use Rattle.factor_file.specs.Steps.{record_value, pair_bytes}
use Rattle.factor_file.proofs.file.RecordLaws.{bytes_of, bytes_at, small_at_all, lowest_value, not_lowest_none, no_bytes, one_bytes}
use Rattle.factor_file.proofs.file.records.put_place.Statement.{statement}
use Rattle.factor_file.proofs.file.records.put_place.Tie as tie

-- the factor is the record's value
found : (c : tie.After-walked_factor-x) → let a = c.before.before.before.before.before.args in c.walked_factor-x.result ≡ pair_of (record_value (cell_group a.cell) (cell_halves a.cell) a.modulus a.volume.now (triple_of a.j))
found c =
    let t = c.before in
    let a = t.before.before.before.before.args in
    lowest_value (cell_group a.cell) (cell_halves a.cell) a.modulus a.volume.now (triple_of a.j) (sym t.before.lowest.ensures ∙ t.if-lowest.true) c.walked_factor-x.ensures

-- the bytes of the record, once there is one
bytes-are : (c : tie.Else-is_zero) →
    let x = c.before.before in
    let a = x.before.before.before.before.before.args in
    pair_bytes (triple_of a.j) x.walked_factor-x.result ≡ bytes_at (cell_group a.cell) (cell_halves a.cell) a.modulus a.volume.now (triple_of a.j ∷ [])
bytes-are c =
    let z = c.before in
    let x = z.before in
    let a = x.before.before.before.before.before.args in
    one_bytes (cell_group a.cell) (cell_halves a.cell) a.modulus a.volume.now (triple_of a.j) (found x) z.is_zero.ensures c.if-is_zero.false

lowest-requires : tie.Need-lowest-requires
lowest-requires c κs = let p = c.before.before.requires.0 in (p.0.volume.sizes, p.1)

walked_factor-x-requires : tie.Need-walked_factor-x-requires
walked_factor-x-requires c κs =
    let p = c.before.before.before.before.requires.0 in
    ((p.0.modulus, p.0.volume.sizes, p.1), (p.0.volume.long, small_at_all p.0.small _))

is_zero-requires : tie.Need-is_zero-requires
is_zero-requires c κs = search rules

put_record-requires : tie.Need-put_record-requires
put_record-requires c κs =
    let s = c.before.before.before.before.before.before.before.before in
    let w = s.requires.0.1 in
    let z = s.requires.0.0.volume.sizes in
    (omega (arith, w.h, z.first.high), omega (arith, w.k, z.second.high), omega (arith, w.l, z.third.high), ends_as s.requires.1 (sym (bytes-are c.before)))

returns-then-is_zero : tie.Need-returns-then-is_zero
returns-then-is_zero c =
    let z = c.before in
    let x = z.before in
    let a = x.before.before.before.before.before.args in
    no_bytes (cell_group a.cell) (cell_halves a.cell) a.modulus a.volume.now (triple_of a.j) (found x) z.is_zero.ensures a.at a.out.now c.if-is_zero.true

shape_of-out : tie.Need-shape_of-out
shape_of-out c = search rules

returns-else-is_zero : tie.Need-returns-else-is_zero
returns-else-is_zero c =
    let p = c.before.before in
    wrote_as p.put_record.ensures (bytes-are p.before.before)

returns-else-lowest : tie.Need-returns-else-lowest
unfolding all_bytes
returns-else-lowest c =
    let a = c.before.before.before.before.args in
    wrote_as (wrote_none a.at a.out.now) (sym (ap (bytes_of a.modulus) (not_lowest_none (cell_group a.cell) (cell_halves a.cell) a.modulus a.volume.now (triple_of a.j) (sym c.before.lowest.ensures ∙ c.if-lowest.false))))

pub put_place_spec : {M : Type 1} → statement M
put_place_spec =
    tie.close
    (tie.spec lowest-requires walked_factor-x-requires is_zero-requires put_record-requires returns-then-is_zero shape_of-out returns-else-is_zero returns-else-lowest)
