-- The rows, then the closing lines with the total of the plane.
use mathlib.Core.Path.{◌≡◌, sym, ◌∙◌, ap}
use mathlib.Core.List.{List, ◌++◌}
use Prim.Native.Nat.{ℕ, ◌*◌}
use native.Mathlib.Omega.{arith}
use lib.IntN.{ℤ}
use mir.Syntax.{w64}
use mir.Val.{SFits, to_z, of_z}
use mir.ValLaws.{to_z-of_z}
use Rattle.cell.specs.declared.operations.UnitCell.{UnitCell}
use Rattle.cell.specs.Operations.{cell_lengths}
use Rattle.output.specs.Output.{each}
use Rattle.output.proofs.Writing.{wrote_append, wrote_as, ends_as, ends_left, ends_right}
use Rattle.section.specs.Section.{section_line, row_lines, total, closing_text, section_text}
use Rattle.section.proofs.Outcomes.{page_ends, points_few}
use Rattle.section.proofs.put_section.Goals as goal

abbrev rows : UnitCell → List ℤ → ℕ → List ℕ
rows k map z = each k.n1 (λ x. each (row_lines (cell_lengths k)) (λ i. section_line k.group (cell_lengths k) map z x i))

-- the closing lines with a total as the machine keeps it
abbrev closing : UnitCell → ℤ → List ℕ
closing k t = closing_text (to_z w64 (of_z w64 t)) (k.n1 * k.n2)

text : (k : UnitCell) (map : List ℤ) (z : ℕ) (t : ℤ) → SFits w64 t → t ≡ total k.group (cell_lengths k) map z → rows k map z ++ closing k t ≡ section_text k.group (cell_lengths k) map z
unfolding section_text
text k map z t f e = ap (λ t. rows k map z ++ closing_text t (k.n1 * k.n2)) (to_z-of_z w64 t f ∙ e)

pub overflow_mul-points : goal.overflow_mul-points
overflow_mul-points c = omega (arith, (points_few c.args.cell c.args.map.now c.args.z c.requires).1)

pub put_rows-rows-requires : goal.put_rows-rows-requires
put_rows-rows-requires c =
    let a = c.args in
    let t = text a.cell a.map.now a.z _ (record { sfits = c.plane_total-total.type_inv }) c.plane_total-total.ensures in
    record { plane = c.requires.plane; ends = ends_left (rows a.cell a.map.now a.z) _ (ends_as (page_ends a.cell a.map.now a.z c.requires) (sym t)) }

pub put_closing-requires : goal.put_closing-requires
put_closing-requires c =
    let a = c.args in
    let t = text a.cell a.map.now a.z _ (record { sfits = c.plane_total-total.type_inv }) c.plane_total-total.ensures in
    record { le_points = points_few a.cell a.map.now a.z c.requires; ends = ends_right (closing a.cell c.plane_total-total.result) c.put_rows-rows.ensures (ends_as (page_ends a.cell a.map.now a.z c.requires) (sym t)) }

pub returns : goal.returns
returns c =
    let a = c.args in
    wrote_as (wrote_append c.put_rows-rows.ensures c.put_closing.ensures) (text a.cell a.map.now a.z _ (record { sfits = c.plane_total-total.type_inv }) c.plane_total-total.ensures)
