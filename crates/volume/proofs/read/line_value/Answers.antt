-- Stored, or implied by the factor at (h, k, -l), which is read from the same numbers.
use Prim.Native.Nat.{◌/◌, ◌≤◌}
use native.Mathlib.Omega.{arith}
use Rattle.algebra.specs.cells.Cell.{span}
use Rattle.numbers.proofs.Values.{small_by}
use Rattle.cell.specs.Operations.{cell_group, cell_halves, triple_of}
use Rattle.cell.proofs.PlaceLaws.{inside_of}
use Rattle.volume.proofs.read.ReadingLaws.{beyond_value}
use Rattle.volume.proofs.read.line_value.Goals as goal

pub implied-requires : goal.implied-requires
implied-requires c =
    (c.requires.modulus.0, small_by _ _ c.value_at-x.ensures)

pub returns-else-j-stored_count : goal.returns-else-j-stored_count
returns-else-j-stored_count c =
    let a = c.args in
    let beyond : span (cell_group a.cell) (a.cell.n3 / 2) ≤ a.j.l = omega (arith, c.stored_count.ensures, c.if-j-stored_count.false) in
    beyond_value (cell_halves a.cell) a.m a.volume.now (triple_of a.j) (triple_of c.stored_index-i.result) (inside_of c.requires.modulus.1 c.requires.modulus.2) a.cell.group
    c.line_operation.ensures (c.stored_index-i.ensures.result_value_3 beyond) beyond c.value_at-x.ensures c.implied.ensures
