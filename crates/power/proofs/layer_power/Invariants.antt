-- The rows before h.
use Rattle.cell.specs.Lent.{of_residues}
use Rattle.power.specs.PowerSteps.{row_power}
use Rattle.power.proofs.PowerLaws.{Adding}
use Rattle.power.proofs.layer_power.Given as goal

abbrev pub invariant-loop-h : goal.invariant-loop-h
invariant-loop-h l = Adding l.r.m (λ h. of_residues row_power l.r l.density l.w h) l.h l.total
