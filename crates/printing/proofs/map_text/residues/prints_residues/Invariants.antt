-- The planes before z have residues.
use Rattle.algebra.specs.cells.Cell.{below}
use Rattle.algebra.proofs.cells.Passing.{Passing}
use Rattle.cell.specs.Volume.{layers}
use Rattle.job.specs.Job.{group_in, halves}
use Rattle.printing.specs.Text.{row_residues}
use Rattle.printing.proofs.map_text.residues.prints_residues.Given as goal

abbrev pub invariant-loop-z : goal.invariant-loop-z
invariant-loop-z l = Passing (λ z. below l.job.a.length (λ x. row_residues l.job l.volume z x)) (layers (group_in l.job) (halves l.job)) l.z
