-- The layers before w.
use Rattle.cell.specs.Lent.{of_residues}
use Rattle.power.specs.PowerSteps.{layer_power}
use Rattle.power.proofs.PowerLaws.{Adding}
use Rattle.power.proofs.stored_power.Given as goal

abbrev pub invariant-loop-w : goal.invariant-loop-w
invariant-loop-w l = Adding l.r.m (λ w. of_residues layer_power l.r l.density w) l.w l.total
