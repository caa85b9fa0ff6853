-- An odd h of P2₁2₁2₁.
use mathlib.Core.Path.{sym, ◌∙◌, ap}
use mathlib.Core.Bool.{not}
use Rattle.cell.specs.Volume.{group_of, rotated}
use Rattle.cell.proofs.PlaceLaws.{even_tested}
use Rattle.cell.proofs.places.is_rotated.Goals as goal

pub returns-then-group-eq4 : goal.returns-then-group-eq4
returns-then-group-eq4 c = ap not (even_tested c.args.h) ∙ sym (ap (λ n. rotated (group_of n) c.args.h) c.if-group-eq4.true)
