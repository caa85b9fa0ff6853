-- The rows before x have residues.
use Rattle.algebra.proofs.cells.Passing.{Passing}
use Rattle.printing.specs.Text.{row_residues}
use Rattle.printing.proofs.map_text.residues.plane_residues.Given as goal

abbrev pub invariant-loop-x : goal.invariant-loop-x
invariant-loop-x l = Passing (λ x. row_residues l.job l.volume l.z x) l.job.a.length l.x
