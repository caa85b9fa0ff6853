-- What the code found of a row is what is asked of it.
use Rattle.std.proofs.Common.{refl, sym, ◌∙◌, arith}
use Rattle.cell.specs.Operations.{cell_group, cell_halves}
use Rattle.cell.specs.Lent.{of_volume}
use Rattle.algebra.proofs.cells.Passing.{below_step, tested_none, tested_stop, tested_last}
use Rattle.volume.proofs.consistent.TestLaws.{row_empty, odd_kind, odd_row, even_row, two_rows}
use Rattle.volume.proofs.consistent.factor_test.odd_rows_empty.Goals as goal

pub loop-h-init : goal.loop-h-init
loop-h-init c =
    let row = of_volume row_empty c.args.v.now in
    record { odd = refl; within = omega (arith, c.args.v.now.whole.sizes.first.low); passed = below_step row 0 (tested_none row) (sym (even_row _ _ _ 0 refl)) }

pub empty_row-requires : goal.empty_row-requires
empty_row-requires c = (odd_kind _ c.requires _ c.loop-h.invariant.odd, c.loop-h-test.true)

pub returns-then-not-empty_row : goal.returns-then-not-empty_row
returns-then-not-empty_row c =
    let i = c.loop-h.invariant in
    let found = odd_row (cell_group c.args.v.now.cell) (cell_halves c.args.v.now.cell) c.args.v.now.volume.now c.requires _ i.odd c.empty_row.ensures in
    tested_stop _ _ i.passed _ (omega (arith, c.args.v.now.whole.sizes.first.even)) found c.if-not-empty_row.true

pub loop-h-preserved : goal.loop-h-preserved
loop-h-preserved c =
    let i = c.loop-h.invariant in
    let found = odd_row (cell_group c.args.v.now.cell) (cell_halves c.args.v.now.cell) c.args.v.now.volume.now c.requires _ i.odd c.empty_row.ensures in
    record { odd = omega arith; within = omega arith; passed = two_rows _ _ _ _ i.odd i.passed (sym found ∙ c.if-not-empty_row.false) }

pub returns : goal.returns
returns c = absurd (omega arith)

pub returns-else-not-empty_row : goal.returns-else-not-empty_row
returns-else-not-empty_row c =
    let i = c.loop-h.invariant in
    let found = odd_row (cell_group c.args.v.now.cell) (cell_halves c.args.v.now.cell) c.args.v.now.volume.now c.requires _ i.odd c.empty_row.ensures in
    tested_last _ _ i.passed _ (omega (arith, c.args.v.now.whole.sizes.first.even)) found c.if-not-empty_row.false
