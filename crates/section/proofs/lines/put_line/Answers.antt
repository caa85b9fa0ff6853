-- x, the five values and the line feed.
use Rattle.std.proofs.Common.{◌≡◌, ap, sym, List, [], ◌∷◌, ◌++◌, ℕ, ◌+◌, ◌*◌, ◌<◌, ℤ, w64, to_z, arith}
use mir.ValLaws.{to_z_pos}
use Rattle.cell.specs.declared.operations.UnitCell.{UnitCell}
use Rattle.cell.specs.Operations.{cell_lengths}
use Rattle.output.specs.Output.{signed_decimal, line_feed, each}
use Rattle.output.proofs.Writing.{wrote_append, wrote_as, ends_as, ends_left, ends_right}
use Rattle.section.specs.Section.{aligned, value_field, section_line}
use Rattle.section.proofs.lines.put_line.Goals as goal

-- x as the machine keeps it, and the values
abbrev index : ℕ → List ℕ
index x = aligned 4 (signed_decimal (to_z w64 x))

abbrev values : UnitCell → List ℤ → (z x i : ℕ) → List ℕ
values cell map z x i = each 5 (λ t. value_field cell.group (cell_lengths cell) map z x (5 * i + t))

line : (cell : UnitCell) (map : List ℤ) (z x i : ℕ) → x < 9223372036854775808 → index x ++ (values cell map z x i ++ line_feed ∷ []) ≡ section_line cell.group (cell_lengths cell) map z x i
unfolding section_line signed_decimal
line cell map z x i l = ap (λ k. aligned 4 (signed_decimal k) ++ (values cell map z x i ++ line_feed ∷ [])) (to_z_pos w64 x (omega arith))

pub put_aligned-first-requires : goal.put_aligned-first-requires
put_aligned-first-requires c =
    let a = c.args in
    let v = values a.cell a.map.now a.z a.x a.i in
    ends_left (index a.x) (v ++ line_feed ∷ []) (ends_as c.requires.ends (sym (line a.cell a.map.now a.z a.x a.i (omega arith))))

pub put_values-end-requires : goal.put_values-end-requires
put_values-end-requires c =
    let a = c.args in
    let v = values a.cell a.map.now a.z a.x a.i in
    record {
      plane = (c.requires.plane.0, c.requires.plane.1, omega (arith, c.requires.plane.2, c.requires.plane.0.sizes.second.high));
      ends = ends_left v (line_feed ∷ []) (ends_right (v ++ line_feed ∷ []) c.put_aligned-first.ensures (ends_as c.requires.ends (sym (line a.cell a.map.now a.z a.x a.i (omega arith)))));
    }

pub put_byte-requires : goal.put_byte-requires
put_byte-requires c =
    let a = c.args in
    let v = values a.cell a.map.now a.z a.x a.i in
    ends_right (line_feed ∷ []) c.put_values-end.ensures (ends_right (v ++ line_feed ∷ []) c.put_aligned-first.ensures (ends_as c.requires.ends (sym (line a.cell a.map.now a.z a.x a.i (omega arith)))))

pub returns : goal.returns
returns c =
    let a = c.args in
    wrote_as (wrote_append c.put_aligned-first.ensures (wrote_append c.put_values-end.ensures c.put_byte.ensures)) (line a.cell a.map.now a.z a.x a.i (omega arith))
