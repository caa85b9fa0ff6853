-- h is odd, and in the rows before it the ends are empty where their lines leave them out.
use Rattle.std.proofs.Common.{◌≡◌, true, ◌%◌, ◌<◌}
use Rattle.algebra.specs.cells.Cell.{below}
use Rattle.cell.specs.Lent.{of_volume}
use Rattle.volume.proofs.consistent.TestLaws.{row_empty}
use Rattle.volume.proofs.consistent.factor_test.odd_rows_empty.Given as goal

abbrev pub invariant-loop-h : goal.invariant-loop-h
invariant-loop-h l = record {
  odd : l.h % 2 ≡ 1;
  within : l.h < l.v.cell.n1;
  passed : below l.h (of_volume row_empty l.v) ≡ true;
}
