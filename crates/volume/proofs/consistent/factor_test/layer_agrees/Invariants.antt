-- The rows before h agree, that of -h among them where h is beyond N1/2.
use Rattle.std.proofs.Common.{◌≡◌, true}
use Rattle.algebra.specs.cells.Cell.{below}
use Rattle.cell.specs.TestSteps.{line_row_agrees}
use Rattle.cell.specs.Lent.{of_residues}
use Rattle.volume.proofs.consistent.factor_test.layer_agrees.Given as goal

abbrev pub invariant-loop-h : goal.invariant-loop-h
invariant-loop-h l = below l.h (of_residues line_row_agrees l.r l.l) ≡ true
