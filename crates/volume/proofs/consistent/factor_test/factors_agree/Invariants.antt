-- The layers before l agree.
use Rattle.std.proofs.Common.{◌≡◌, true, ◌*◌, ◌/◌}
use Rattle.algebra.specs.cells.Cell.{below}
use Rattle.cell.specs.TestSteps.{line_row_agrees}
use Rattle.cell.specs.Lent.{of_residues}
use Rattle.volume.proofs.consistent.factor_test.factors_agree.Given as goal

abbrev pub invariant-loop-l : goal.invariant-loop-l
invariant-loop-l l = below l.l (λ i. below (2 * (l.r.cell.n1 / 2)) (of_residues line_row_agrees l.r i)) ≡ true
